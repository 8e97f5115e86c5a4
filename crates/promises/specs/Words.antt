-- The words of the promises: what `reading::read` did, by its contract, and tables of the same lengths.
use Rattle.std.specs.Prelude.{ℕ, ◌-◌, ◌≡◌, List, [], ◌∷◌, ◌++◌, map, length, replicate, Result, Ok, Err}
use Rattle.refusal.specs.declared.Refusal.{Refusal}
use Rattle.grammar.specs.declared.Cursor.{Cursor}
use Rattle.grammar.specs.Outcome.{got}
use Rattle.format.specs.Artifact as A
use Rattle.format.specs.File as definition
use Rattle.format.specs.Rows.{tables_of}
use Rattle.format.specs.declared.answer.Artifact.{Artifact}
use Rattle.reading.specs.Answer.{places_of, outside, Answered}

-- one call of `reading::read`: what it was lent, what it answered and what it left, as its contract says
pub record Call (mask : ℕ) (bytes : List ℕ) (answer : Result Artifact Refusal) : Type 0 where
  pub entry : List (List ℕ)
  pub exit : List (List ℕ)
  pub contract : Answered mask bytes entry exit answer

-- two calls were lent tables of the same lengths, whatever these held
abbrev pub SameTables : {mask : ℕ} {s t : List ℕ} {a b : Result Artifact Refusal} → Call mask s a → Call mask t b → Type 0
SameTables first second = map length first.entry ≡ map length second.entry

abbrev pub zeros : List (List ℕ) → List (List ℕ)
zeros tables = map (λ t. replicate (length t) 0) tables

-- a call refused with r, and left every word of every table zero
pub record RefusedWith {mask : ℕ} {bytes : List ℕ} {answer : Result Artifact Refusal} (call : Call mask bytes answer) (r : Refusal) : Type 0 where
  pub answers : answer ≡ Err r
  pub leaves : call.exit ≡ zeros call.entry

-- words in front, zeros behind
abbrev pub in_front : ℕ → List ℕ → List ℕ
in_front size words = words ++ replicate (size - length words) 0

abbrev pub all_in_front : List (List ℕ) → List (List ℕ) → List (List ℕ)
all_in_front [] words = []
all_in_front (t ∷ tables) [] = []
all_in_front (t ∷ tables) (ws ∷ words) = in_front (length t) ws ∷ all_in_front tables words

-- a call accepted what the definition reads: it answered what stands outside the tables, and left each table with its rows in front
pub record AcceptedAs (mask : ℕ) (bytes : List ℕ) (entry exit : List (List ℕ)) (answer : Artifact) : Type 0 where
  pub what : A.Artifact
  pub last : Cursor
  pub read : definition.read (places_of entry) mask bytes ≡ got what last
  pub answers : answer ≡ outside what
  pub leaves : exit ≡ all_in_front entry (tables_of what)
