-- The short entry at hand is the one asked, or the walk goes on.
use Rattle.std.proofs.Common.{◌-◌, sym, ◌∙◌, arith}
use Rattle.pos.proofs.Walks.{seek_hit}
use Rattle.pos.proofs.seek.Goals as goal

pub returns-then-e-from : goal.returns-then-e-from
returns-then-e-from c =
    c.site_for.ensures ∙
    sym (seek_hit c.args.asked (c.args.asked - c.args.from.room) c.in-Some.ensures c.if-from-gt0.true
    (omega (arith, c.requires, c.ranges.asked.fits, c.if-e-from.true)) (omega (arith, c.requires, c.if-e-from.true)) (omega arith))
