-- What judging answers of the lowest broken rule's number, 0 where none is broken.
use Rattle.std.specs.Prelude.{ℕ, zero, suc, Result, Ok, Err}
use Rattle.refusal.specs.declared.Refusal.{Refusal}

abbrev pub judged : ℕ → Result (Unit {0}) Refusal
judged zero = Ok tt
judged (suc rule) = Err (Refusal.BadModel (suc rule))
