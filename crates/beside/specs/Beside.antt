-- What C is told of a signed number and of put.
use Rattle.std.specs.Prelude.{ℕ, List, ℤ, length}
use Rattle.grammar.specs.Outcome.{Outcome}
use Rattle.grammar.specs.Number.{signed}
use Rattle.refusal.specs.declared.Refusal.{Refusal}
use Rattle.std.specs.Prelude.{Result, Ok, Err}
use Rattle.varint.specs.Answers.{written_is}
use Rattle.grain.specs.Numbers.{place_at, number_of}

abbrev pub signed_at : List ℕ → ℕ → Outcome ℤ
signed_at bytes at = signed bytes (place_at at)

-- put: 0 where the shortest form fits, else the number of NoRoom
abbrev pub written_answer : Result ℕ Refusal → ℕ
written_answer (Ok size) = 0
written_answer (Err r) = number_of r

abbrev pub put_answer : List ℕ → ℕ → ℕ
put_answer out value = written_answer (written_is (length out) value)
