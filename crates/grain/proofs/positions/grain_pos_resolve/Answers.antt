-- The site and 1, or zeros and 0.
use mathlib.Core.Path.{refl}
use Rattle.grain.proofs.positions.grain_pos_resolve.Goals as goal

pub returns-in-Some : goal.returns-in-Some
returns-in-Some c =
    record { value = rw (← c.resolve.ensures, c.in-Some.is) refl; site_after = rw (← c.resolve.ensures, c.in-Some.is) refl }

pub returns-in-None : goal.returns-in-None
returns-in-None c =
    record { value = rw (← c.resolve.ensures, c.in-None.is) refl; site_after = rw (← c.resolve.ensures, c.in-None.is) refl }
