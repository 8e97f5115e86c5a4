-- One byte is stored as it is.
use Rattle.std.proofs.Common.{◌+◌, ap, arith}
use Rattle.pos.proofs.Puts.{width_one, put_one}
use Rattle.pos.proofs.encoding.put_byte.Goals as goal

pub bounds-out-at : goal.bounds-out-at
bounds-out-at c =
    omega (arith, c.requires.value_in_bounds, width_one c.args.value c.requires.value_bound)

pub returns : goal.returns
returns c =
    record { value = ap (λ n. c.args.at + n) (width_one _ c.requires.value_bound); out_after = put_one _ _ _ c.requires.value_bound }
