-- What the answer of a read of bytes says, as an outcome of the definition: where they stand, and what they are.
use Rattle.std.specs.Prelude.{ℕ, List, Result}
use Rattle.refusal.specs.declared.Refusal.{Refusal}
use Rattle.grammar.specs.declared.Cursor.{Cursor}
use Rattle.grammar.specs.declared.Span.{Span}
use Rattle.grammar.specs.Outcome.{Outcome}
use Rattle.grammar.specs.Combinators.{Text, text_at}
use Rattle.grammar.specs.Read.{answer_as}

abbrev pub text_is : List ℕ → Result (Span × Cursor) Refusal → Outcome Text
text_is s = answer_as (text_at s)
