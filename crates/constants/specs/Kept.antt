-- Something was read into the table from a word on: the answer says the places used behind it, and the table holds its words.
use Rattle.std.specs.Prelude.{ℕ, Result, ◌≡◌, length}
use mathlib.Core.List.{List, foldl}
use Rattle.std.proofs.lemmas.List.Edits.{sets}
use Rattle.refusal.specs.declared.Refusal.{Refusal}
use Rattle.grammar.specs.declared.Cursor.{Cursor}
use Rattle.grammar.specs.Outcome.{Outcome, got, refused}
use Rattle.grammar.specs.Combinators.{Text}
use Rattle.grammar.specs.Read.{answer}
use Rattle.tables.specs.Table.{rows}
use Rattle.format.specs.Artifact.{Constant, behind, levels}
use Rattle.format.specs.Rows.{nowhere, constant_rows}
use Rattle.constants.specs.declared.Counts.{Counts}

abbrev pub places_behind : {A : Type 0} → (A → ℕ) → Outcome A → Outcome ℕ
places_behind behind (got v next) = got (behind v) next
places_behind behind (refused r) = refused r

-- on a refusal nothing is said of the table
pub record Kept {A : Type 0} (o : Outcome A) (behind : A → ℕ) (words : A → List ℕ) (at : ℕ) (entry exit : List ℕ) (read : Result (ℕ × Cursor) Refusal) : Type 0 where
  pub result : places_behind behind o ≡ answer read
  pub table : (v : A) (next : Cursor) → o ≡ got v next → exit ≡ sets entry at (words v)

-- ── all constants ──

-- how many top constants, and the places that they use
abbrev pub counts : Outcome (List (Constant Text levels)) → Outcome Counts
counts (got cs next) = got (record { tops = length cs; used = foldl (behind Text levels) 0 cs }) next
counts (refused r) = refused r

-- what the answer says, and what the table holds where the constants were got; on a refusal nothing is said of the table
pub record KeptAll (o : Outcome (List (Constant Text levels))) (entry exit : List ℕ) (read : Result (Counts × Cursor) Refusal) : Type 0 where
  pub result : counts o ≡ answer read
  pub table : (cs : List (Constant Text levels)) (next : Cursor) → o ≡ got cs next → exit ≡ sets entry 0 (rows (constant_rows levels nowhere) cs)
