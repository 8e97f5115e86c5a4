-- The first rows of a table that is cut up to its end.
use Prim.Native.Nat.{ℕ, zero, suc, ◌≤◌}
use mathlib.Core.Path.{◌≡◌, refl, ap}
use mathlib.Core.List.{List, ◌∷◌}
use native.Mathlib.Omega.{arith}
use lib.ListN.{take, drop}
use Rattle.std.specs.Simd.{first_chunks}
use Rattle.rows.specs.Back.{cut}

pub take-chunks : (width n more : ℕ) (t : List ℕ) → n ≤ more → take n (first_chunks width more t) ≡ cut width n t
take-chunks width zero more t h = refl
take-chunks width (suc n) zero t h = absurd (omega arith)
take-chunks width (suc n) (suc more) t h = ap (λ rows. take width t ∷ rows) (take-chunks width n more (drop width t) (omega arith))
