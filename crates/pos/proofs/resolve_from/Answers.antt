-- The first entry is the one asked or the only one, or the walk runs from it.
use Rattle.std.proofs.Common.{sym, ◌∙◌, zero-add, arith}
use Rattle.pos.proofs.Walks.{step_fits_lem, seek_hit, seek-missed}
use Rattle.pos.proofs.resolve_from.Goals as goal

pub returns-then-asked-e : goal.returns-then-asked-e
returns-then-asked-e c =
    c.site_for.ensures ∙
    sym (seek_hit c.args.asked 0 c.in-Some.ensures c.if-left-gt0.true (omega (arith, step_fits_lem c.in-Some.ensures)) (zero-add _) c.if-asked-e.true)

pub returns-then-left-eq1 : goal.returns-then-left-eq1
returns-then-left-eq1 c =
    sym (seek-missed c.args.asked 0 c.in-Some.ensures c.if-left-gt0.true (omega (arith, step_fits_lem c.in-Some.ensures)) c.if-left-eq1.true (omega (arith, c.if-asked-e.false)))
