-- What the answer of a read in the code says, as an outcome of the definitions.
use Rattle.std.specs.Prelude.{Result, Ok, Err}
use Rattle.refusal.specs.declared.Refusal.{Refusal}
use Rattle.grammar.specs.declared.Cursor.{Cursor}
use Rattle.grammar.specs.Outcome.{Outcome, got, refused}

-- `f` says what is meant by what was read
abbrev pub answer_as : {A B : Type 0} → (A → B) → Result (A × Cursor) Refusal → Outcome B
answer_as f (Ok (v, next)) = got (f v) next
answer_as f (Err r) = refused r

abbrev pub answer : {A : Type 0} → Result (A × Cursor) Refusal → Outcome A
answer = answer_as (λ v. v)
