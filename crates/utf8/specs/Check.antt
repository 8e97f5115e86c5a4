-- UTF-8 as a test that computes: one pass over the bytes, by the table of the RFC's syntax.
use Rattle.std.specs.Prelude.{Bool, true, false, ◌&&◌, List, [], ◌∷◌, ℕ, leb}
use Rattle.utf8.specs.Syntax.{Range, ◌to◌, UTF8-char}

-- where the test stands: the ranges that the character at hand still owes, none of them between characters; or refused
pub data State : Type 0 where
  owes : List Range → State
  refused : State

abbrev pub within : Range → ℕ → Bool
within (low to high) b = leb low b && leb b high

abbrev pub pick : Bool → State → State → State
pick true a b = a
pick false a b = b

-- a first byte: its row is the first whose first range has it, and what is left of that row is owed
unfoldable pub first : List (List Range) → ℕ → State
first [] b = refused
first ([] ∷ rows) b = first rows b
first ((range ∷ row) ∷ rows) b = pick (within range b) (owes row) (first rows b)

unfoldable pub next : State → ℕ → State
next refused b = refused
next (owes []) b = first UTF8-char b
next (owes (range ∷ row)) b = pick (within range b) (owes row) refused

-- at the end nothing may be owed
unfoldable pub passes : State → List ℕ → Bool
passes refused [] = false
passes (owes (range ∷ row)) [] = false
passes (owes []) [] = true
passes state (b ∷ s) = passes (next state b) s

unfoldable pub is_utf8 : List ℕ → Bool
is_utf8 s = passes (owes []) s
