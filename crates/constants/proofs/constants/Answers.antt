-- The count, and then the top constants as a list without keys.
use Rattle.constants.proofs.Tops.{no-count, tops-refused, tops-got, read_err}
use Rattle.constants.proofs.constants.Goals as goal

pub returns-in_err-n : goal.returns-in_err-n
returns-in_err-n c =
    read_err (no-count _ _ _ c.in_err-n.ensures) c.from_residual.ensures.1

pub returns-in_err-used : goal.returns-in_err-used
returns-in_err-used c =
    read_err (tops-refused _ _ _ c.in_ok-n.ensures c.in_err-used.ensures) c.from_residual-in_err-used.ensures.1

pub returns : goal.returns
returns c =
    tops-got _ _ _ c.in_ok-n.ensures c.in_ok-used.ensures
