-- The halves of the id are those of its number.
use native.Mathlib.Omega.{arith}
use mathlib.Core.Path.{refl}
use Rattle.grain.proofs.Halves.{halves}
use Rattle.grain.proofs.positions.grain_debug_id.Goals as goal

pub returns : goal.returns
returns c =
    record { value = refl; id_after = halves c.debug_id-d.ensures (omega (arith, c.debug_id-d.type_inv)) }
