-- What a walk over the constants' rows answers, and what a test of rows does that is given to one.
use Rattle.std.specs.Prelude.{ℕ, ◌≡◌, ◌&&◌, Bool, List, length, eqb, Option, Some, None}
use denote.Ref.{Bor}
use Rattle.model.specs.Rules.{skip, exactly, Behind, behind, too_deep}

-- behind n constants and all that they own; the rows are used exactly where the walk comes out even at their end
pub record Walk (rows : List (List ℕ)) (n : ℕ) (left : List (List ℕ)) (paid : Bool) : Type 0 where
  pub rest : left ≡ skip rows n
  pub even : paid && eqb (length left) 0 ≡ exactly rows n

-- behind some constants, if the levels do for them
abbrev pub reached : Option (Bor (List (List ℕ))) → Behind
reached (Some rest) = behind rest.now
reached None = too_deep

-- the test of rows that a closure decides, by what its calls answer
abbrev pub Decides : {R : Type 0} → (Bor R → Bool → Type 0) → (R → Bool) → Type 0
Decides {R} post test = (row : Bor R) (b : Bool) → post row b → b ≡ test row.now
