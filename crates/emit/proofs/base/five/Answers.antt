-- Five groups are stored, of which as many count as the number has.
use Prim.Native.Nat.{◌+◌}
use mathlib.Core.Path.{◌∙◌, ap}
use native.Mathlib.Omega.{arith}
use Rattle.emit.proofs.Groups.{five-few, five-puts}
use Rattle.emit.proofs.base.five.Goals as goal

pub overflow_add-result : goal.overflow_add-result
overflow_add-result c =
    omega (arith, five-few c.args.v c.requires.v_bound, c.requires.at_in_bounds, c.size.ensures)

pub returns : goal.returns
returns c =
    five-puts c.args.v c.requires.v_bound (c.copy_from_slice.ensures.after ∙ rw (c.group.ensures, c.group-2.ensures, c.group-3.ensures, c.group-4.ensures, c.group-last.ensures)) (omega arith) c.requires.at_in_bounds (ap (λ n. c.args.at + n) c.size.ensures)
