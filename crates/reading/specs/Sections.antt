-- What a read of all sections answers, and what their tables hold where it is accepted; of a refused file nothing is said of them.
use Rattle.std.specs.Prelude.{ℕ, ◌≡◌, List, Result}
use Rattle.refusal.specs.declared.Refusal.{Refusal}
use Rattle.grammar.specs.declared.Cursor.{Cursor}
use Rattle.grammar.specs.Outcome.{Outcome, got}
use Rattle.grammar.specs.Combinators.{file}
use Rattle.format.specs.Artifact as A
use Rattle.format.specs.File as definition
use Rattle.format.specs.Rows.{tables_of}
use Rattle.format.specs.declared.answer.Artifact.{Artifact}
use Rattle.reading.specs.Answer.{places_of, answer_of}
use Rattle.reading.specs.Places.{stored_all}

abbrev pub whole : ℕ → List ℕ → List (List ℕ) → Outcome A.Artifact
whole mask s entry = file (definition.artifact (places_of entry) mask) s

pub record Sections (o : Outcome A.Artifact) (entry exit : List (List ℕ)) (answer : Result Artifact Refusal) : Type 0 where
  pub result : answer ≡ answer_of o
  pub tables : (a : A.Artifact) (last : Cursor) → o ≡ got a last → exit ≡ stored_all entry (tables_of a)
