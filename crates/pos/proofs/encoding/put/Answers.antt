-- One byte, two and three are stored as they are.
use Rattle.std.proofs.Common.{◌+◌, ap, arith, length-set}
use Rattle.pos.proofs.Puts.{width_one, width_two, width_three, put_one, put_two, put-wide}
use Rattle.pos.proofs.encoding.put.Goals as goal

pub bounds-out-at : goal.bounds-out-at
bounds-out-at c =
    omega (arith, c.requires, width_one c.args.value c.if-value-lt128.true)

pub returns-then-value-lt128 : goal.returns-then-value-lt128
returns-then-value-lt128 c =
    record { value = ap (λ n. c.args.at + n) (width_one _ c.if-value-lt128.true); out_after = put_one _ _ _ c.if-value-lt128.true }

pub bounds-out-at-then-value-lt16384 : goal.bounds-out-at-then-value-lt16384
bounds-out-at-then-value-lt16384 c =
    omega (arith, c.requires, width_two c.args.value c.if-value-lt128.false c.if-value-lt16384.true)

pub bounds-out-at-then-value-lt16384-2 : goal.bounds-out-at-then-value-lt16384-2
bounds-out-at-then-value-lt16384-2 c =
    simp length-set (omega (arith, c.requires, width_two c.args.value c.if-value-lt128.false c.if-value-lt16384.true))

pub returns-then-value-lt16384 : goal.returns-then-value-lt16384
returns-then-value-lt16384 c =
    record { value = ap (λ n. c.args.at + n) (width_two _ c.if-value-lt128.false c.if-value-lt16384.true); out_after = put_two _ _ _ c.if-value-lt128.false c.if-value-lt16384.true }

pub bounds-out-at-then-value-lt2097152 : goal.bounds-out-at-then-value-lt2097152
bounds-out-at-then-value-lt2097152 c =
    omega (arith, c.requires, width_three c.args.value c.if-value-lt16384.false c.if-value-lt2097152.true)

pub bounds-out-at-then-value-lt2097152-2 : goal.bounds-out-at-then-value-lt2097152-2
bounds-out-at-then-value-lt2097152-2 c =
    simp length-set (omega (arith, c.requires, width_three c.args.value c.if-value-lt16384.false c.if-value-lt2097152.true))

pub bounds-out-at-then-value-lt2097152-3 : goal.bounds-out-at-then-value-lt2097152-3
bounds-out-at-then-value-lt2097152-3 c =
    simp length-set (omega (arith, c.requires, width_three c.args.value c.if-value-lt16384.false c.if-value-lt2097152.true))

pub returns-then-value-lt2097152 : goal.returns-then-value-lt2097152
returns-then-value-lt2097152 c =
    record { value = ap (λ n. c.args.at + n) (width_three _ c.if-value-lt16384.false c.if-value-lt2097152.true); out_after = put-wide _ _ _ c.if-value-lt16384.false c.if-value-lt2097152.true }
