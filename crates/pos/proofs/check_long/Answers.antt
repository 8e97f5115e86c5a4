-- The count is read as it stands, and a walk leaves the check behind it as it is.
use Rattle.std.proofs.Common.{arith}
use Rattle.std.proofs.lemmas.Result.{err_from_is_err_and}
use Rattle.pos.proofs.Walks.{checking-begins, checked_refused, checking-runs}
use Rattle.pos.proofs.check_long.Goals as goal

pub entries-requires : goal.entries-requires
entries-requires c =
    checking-runs (checking-begins _ _ _ (rw c.new.ensures at c.in_ok-count.ensures)) (omega arith) c.run.ensures

pub returns-in_err-count : goal.returns-in_err-count
returns-in_err-count c =
    let p = err_from_is_err_and c.from_residual.result c.from_residual.ensures.1 in
    rw (p.1, p.2) (checked_refused _ _ (rw c.new.ensures at c.in_err-count.ensures))
