-- `debug_id::mix_two` meets its contract: the halves that it makes are those of the two products in turn.
use Rattle.std.proofs.Common.{ℕ, ◌/◌, ap, ◌∙◌, arith}
use Rattle.debug_id.proofs.Halves.{xor_above, two_steps}
use Rattle.debug_id.proofs.mix_two.Goals as goal

pub carry_two-requires : goal.carry_two-requires
carry_two-requires c =
    xor_above c.scaled-y.result c.args.second (omega (arith, c.ranges.second))
    ∙ ap (λ (n : ℕ). n / 256) c.scaled-y.ensures

pub returns : goal.returns
returns c =
    two_steps c.args.id.high c.args.id.low c.args.first c.args.second
    (omega (arith, c.ranges.first))
    (omega (arith, c.ranges.second))
    c.scaled-y.ensures
    c.wrapping_add_u64-both.ensures.value
    c.carry_two.ensures
    c.wrapping_add_u64-above.ensures.value
    c.scaled.ensures
    c.scaled-2.ensures
    c.scaled-3.ensures
    c.wrapping_add_u64.ensures.value
