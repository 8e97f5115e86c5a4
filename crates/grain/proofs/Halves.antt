-- The halves of a number of 128 bits are those that it was made of.
use Prim.Native.Nat.{ℕ, ◌+◌, ◌*◌, ◌<◌, ◌^◌}
use mathlib.Core.Path.{◌≡◌}
use mathlib.Core.List.{[], ◌∷◌}
use lib.Arith.{digits_div, digits_mod}
use Rattle.grain.specs.Positions.{halves_of}

pub halves : {id low high : ℕ} → high * 2 ^ 64 + low ≡ id → low < 2 ^ 64 → low ∷ high ∷ [] ≡ halves_of id
halves {id} {low} {high} is fits = rw (← is, digits_mod high fits, digits_div high fits)
