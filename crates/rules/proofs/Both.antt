-- What two tests that are joined say where they hold.
use Prim.Native.Nat.{ℕ}
use mathlib.Core.Bool.{Bool, true, false, ◌&&◌}
use mathlib.Core.Path.{◌≡◌, refl}
use native.Mathlib.Omega.{arith}

pub false-true : {R : Type 0} → false ≡ true → R
false-true e = let z : ◌≡◌ {A = ℕ} 0 1 = cc in absurd (omega arith)

pub record Both (a b : Bool) : Type 0 where
  pub first : a ≡ true
  pub second : b ≡ true

pub both : (a b : Bool) → a && b ≡ true → Both a b
both true b e = record { first = refl; second = e }
both false b e = false-true e
