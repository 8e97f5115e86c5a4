-- `debug_id::scaled` meets its contract: 63 times five times the number is 315 times it, modulo 2 to the 64.
use Rattle.std.proofs.Common.{arith}
use Rattle.debug_id.proofs.Halves.{five-by-63}
use Rattle.debug_id.proofs.scaled.Goals as goal

pub returns : goal.returns
returns c =
    five-by-63 c.args.x c.wrapping_add_u64-five.ensures.value c.wrapping_sub_u64.ensures.value
    (omega (arith, c.wrapping_sub_u64.type_inv))
