-- Each answer is one lemma of Read, over the word that eight bytes make and the tenth byte.
use Rattle.std.proofs.Common.{arith, get_or, refl, ◌+◌, ◌<◌}
use Rattle.varint.proofs.Read.{zeros-few, tenth-few, answers-over, answers-within}
use Rattle.varint.proofs.behind_one.Goals as goal

pub overflow_cast-tenth : goal.overflow_cast-tenth
overflow_cast-tenth c =
    omega (arith, zeros-few c.eight-x.result)

pub overflow_mul-tenth : goal.overflow_mul-tenth
overflow_mul-tenth c =
    let byte : get_or c.args.s.now (c.args.at + 9) 0 < 256 = omega (arith, c.type_inv.s (c.args.at + 9)) in omega (arith, tenth-few (get_or c.args.s.now (c.args.at + 9) 0) c.eight-x.result)

pub returns-then-tenth-gt1 : goal.returns-then-tenth-gt1
returns-then-tenth-gt1 c =
    record { taken_le_left = tt; at_value = answers-over c.requires.left_value c.requires.le_left c.requires.holding c.eight-x.ensures.value c.eight-x.ensures.bytes refl c.if-tenth-gt1.true }

pub overflow_cast-result : goal.overflow_cast-result
overflow_cast-result c =
    omega (arith, zeros-few c.eight-x.result)

pub overflow_add-result : goal.overflow_add-result
overflow_add-result c =
    omega (arith, zeros-few c.eight-x.result)

pub returns : goal.returns
returns c =
    record { taken_le_left = (answers-within c.requires.left_value c.requires.le_left c.requires.holding c.eight-x.ensures.value c.eight-x.ensures.bytes refl c.wrapping_sub_u64.ensures.value (omega (arith, c.wrapping_sub_u64.type_inv)) c.squeezed.ensures c.if-tenth-gt1.false).0; at_value = (answers-within c.requires.left_value c.requires.le_left c.requires.holding c.eight-x.ensures.value c.eight-x.ensures.bytes refl c.wrapping_sub_u64.ensures.value (omega (arith, c.wrapping_sub_u64.type_inv)) c.squeezed.ensures c.if-tenth-gt1.false).1 }
