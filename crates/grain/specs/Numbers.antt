-- What C is told of a read, an outcome of the grammar.
use Rattle.std.specs.Prelude.{ℕ, List, [], ◌∷◌}
use Rattle.refusal.specs.declared.Refusal.{Refusal}
use Rattle.refusal.specs.Numbers.{row_of}
use Rattle.grammar.specs.declared.Cursor.{Cursor}
use Rattle.grammar.specs.Outcome.{start, advanced, Outcome, got, refused}
use Rattle.grammar.specs.Number.{number}

-- a place by its number
abbrev pub place_at : ℕ → Cursor
place_at at = advanced start at

-- an unsigned number of so many bits, read at a place: 64, an index's 32, a small's 16
abbrev pub number_at : ℕ → List ℕ → ℕ → Outcome ℕ
number_at bits bytes at = number bits bytes (place_at at)

-- a refusal's number in document 01's table
abbrev pub number_of : Refusal → ℕ
number_of r = (row_of r).number

-- 0, or the refusal's number
abbrev pub answer : {A : Type 0} → Outcome A → ℕ
answer (got v next) = 0
answer (refused r) = number_of r

-- what was read; where it was refused, `none`
abbrev pub value_or : {A : Type 0} → A → Outcome A → A
value_or none (got v next) = v
value_or none (refused r) = none

-- the next place; where it was refused, the place where it began
abbrev pub next_or : {A : Type 0} → ℕ → Outcome A → ℕ
next_or at (got v next) = next.at
next_or at (refused r) = at

-- both, as the two numbers that are lent
abbrev pub pair_or : ℕ → Outcome ℕ → List ℕ
pair_or at o = value_or 0 o ∷ next_or at o ∷ []
