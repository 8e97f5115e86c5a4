-- The first number, or why there is none.
use Rattle.std.proofs.lemmas.Result.{err_from_is_err_and}
use Rattle.position_table.specs.Table.{counted}
use Rattle.pos.proofs.count.Goals as goal

pub returns-in_err-count : goal.returns-in_err-count
unfolding counted
returns-in_err-count c =
    let p = err_from_is_err_and c.from_residual.result c.from_residual.ensures.1 in
    rw (← c.new.ensures, c.in_err-count.ensures, p.1, p.2)

pub returns : goal.returns
unfolding counted
returns c =
    rw (← c.new.ensures, c.in_ok-count.ensures)
