-- `debug_id::mix` meets its contract: the halves that it makes are those of the product.
use Rattle.std.proofs.Common.{arith}
use Rattle.debug_id.proofs.Halves.{one-step}
use Rattle.debug_id.proofs.mix.Goals as goal

pub returns : goal.returns
returns c =
    one-step c.args.id.high c.args.id.low c.args.byte (omega (arith, c.ranges.byte))
    c.carry.ensures
    c.wrapping_add_u64-above.ensures.value
    c.scaled.ensures
    c.scaled-2.ensures
    c.wrapping_add_u64.ensures.value
