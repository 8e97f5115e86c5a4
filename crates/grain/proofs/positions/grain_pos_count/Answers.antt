-- The count and 0, or 0 and the number.
use mathlib.Core.Path.{refl}
use Rattle.grain.proofs.positions.grain_pos_count.Goals as goal

pub returns-in-Ok : goal.returns-in-Ok
returns-in-Ok c =
    record { value = rw (← c.count.ensures, c.in-Ok.is) refl; count_after = rw (← c.count.ensures, c.in-Ok.is) refl }

pub returns-in-Err : goal.returns-in-Err
returns-in-Err c =
    record { value = rw (← c.count.ensures, c.in-Err.is) c.number_of.ensures; count_after = rw (← c.count.ensures, c.in-Err.is) refl }
