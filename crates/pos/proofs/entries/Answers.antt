-- The loop knows what the check still has to read (`Checking`), and each way out is one law of Walks.
use Rattle.std.proofs.Common.{rules}
use Rattle.std.proofs.lemmas.Result.{err_from_is_err_and}
use Rattle.pos.proofs.Walks.{checking-more, checking-refused, checking-ended, checking-runs}
use Rattle.pos.proofs.entries.Goals as goal

pub loop-w-preserved : goal.loop-w-preserved
loop-w-preserved c =
    checking-runs (checking-more c.loop-w.invariant.at c.loop-w-test.true c.in_ok-site.ensures) (search rules) c.run-w.ensures

pub returns : goal.returns
returns c =
    rw c.ended.ensures (checking-ended c.loop-w.invariant.at c.loop-w-test.false)

pub returns-in_err-site : goal.returns-in_err-site
returns-in_err-site c =
    let p = err_from_is_err_and c.from_residual.result c.from_residual.ensures.1 in
    rw (p.1, p.2) (checking-refused c.loop-w.invariant.at c.loop-w-test.true c.in_err-site.ensures)
