-- What the private reads of a number answer: the value and the bytes taken, or nothing where the number is refused.
use Rattle.std.specs.Prelude.{ℕ, Option, Some, None, nat_lt, if◌then◌else◌}
use Rattle.refusal.specs.declared.Refusal.{Refusal}
use Rattle.grammar.specs.declared.Cursor.{Cursor}
use Rattle.varint.specs.declared.Number.{Number}
use Rattle.grammar.specs.Outcome.{advanced, Outcome, got, refused}

abbrev pub place : ℕ → Cursor
place at = record { at = at }

-- a number is refused for want of bytes where fewer than ten are left, and else for its form
abbrev pub why_not : ℕ → Refusal
why_not left = if nat_lt left 10 then Refusal.Truncated else Refusal.MalformedVarint

abbrev pub answered : ℕ → Cursor → Option Number → Outcome ℕ
answered left c (Some number) = got number.value (advanced c number.taken)
answered left c None = refused (why_not left)
