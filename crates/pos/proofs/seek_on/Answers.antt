-- The loop knows that what is asked is found in what is left (`Seeking`), and each way out is one law of Walks.
use Rattle.std.proofs.Common.{sym, refl, ◌∙◌, arith}
use Rattle.pos.proofs.Walks.{read_some, read_none, seek-more, seek_found, seek-refused, seek-ended, seeking-runs}
use Rattle.pos.proofs.seek_on.Goals as goal

pub loop-w-init : goal.loop-w-init
loop-w-init c =
    record { within = c.requires; finds = refl }

pub returns-in_err-site : goal.returns-in_err-site
returns-in_err-site c =
    let read = read_none c.entry.result c.in_err-site.ensures.value in
    c.from_residual.ensures ∙ sym (c.loop-w.invariant.finds ∙ seek-refused _ _ _ _ _ c.loop-w-test.true _ (c.entry.ensures ∙ read.1))

pub returns-then-asked-site : goal.returns-then-asked-site
returns-then-asked-site c =
    let read = c.entry.ensures ∙ read_some c.entry.result c.in_ok-site.ensures.value in
    c.site_for.ensures ∙ sym (c.loop-w.invariant.finds ∙ seek_found _ _ _ _ _ c.loop-w-test.true _ _ read c.if-asked-site.true)

pub loop-w-preserved : goal.loop-w-preserved
loop-w-preserved c =
    let read = c.entry.ensures ∙ read_some c.entry.result c.in_ok-site.ensures.value in
    seeking-runs (c.loop-w.invariant.finds ∙ seek-more _ _ _ _ _ c.loop-w-test.true _ _ read c.if-asked-site.false)
    (omega (arith, c.if-asked-site.false)) c.ranges.asked.fits c.run-w.ensures

pub returns : goal.returns
returns c =
    sym (c.loop-w.invariant.finds ∙ seek-ended _ _ _ _ _ c.loop-w-test.false)
