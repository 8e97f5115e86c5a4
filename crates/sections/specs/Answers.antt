-- What each answer of a read says, as an outcome of the definition of the file.
use Rattle.std.specs.Prelude.{ℕ, List, Result, take, drop}
use Rattle.refusal.specs.declared.Refusal.{Refusal}
use Rattle.grammar.specs.declared.Cursor.{Cursor}
use Rattle.grammar.specs.Outcome.{Outcome}
use Rattle.grammar.specs.Combinators.{Text, text_at}
use Rattle.grammar.specs.Read.{answer_as}
use Rattle.format.specs.declared.records.Assign.{Assign}
use Rattle.format.specs.declared.answer.Header.{Header}
use Rattle.format.specs.Artifact as A

-- so many bytes from a place on
abbrev pub run : ℕ → List ℕ → ℕ → List ℕ
run n s at = take n (drop at s)

-- ── 1. the header ──

abbrev pub header_of : Header → A.Header
header_of h = record { caps = h.caps; id_low = h.low; id_high = h.high }

abbrev pub header_is : Result (Header × Cursor) Refusal → Outcome A.Header
header_is = answer_as header_of

-- ── 5. assign records ──

-- the texts stand where the spans say
abbrev pub assign_at : List ℕ → Assign → A.Assign Text
assign_at s a =
    record {
      op_assign = text_at s a.op_assign;
      op_assign_name = a.op_assign_name;
      op = text_at s a.op;
      op_name = a.op_name;
    }

abbrev pub assign_is : List ℕ → Result (Assign × Cursor) Refusal → Outcome (A.Assign Text)
assign_is s = answer_as (assign_at s)
