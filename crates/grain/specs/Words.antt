-- The 32 words of an answer, in their order, and what `grain_read` leaves.
use Rattle.refusal.specs.declared.Refusal.{Refusal}
use Rattle.std.specs.Prelude.{ℕ, ◌≡◌, List, [], ◌∷◌, replicate, Result, Ok, Err}
use Rattle.refusal.specs.declared.Row.{Row}
use Rattle.refusal.specs.Numbers.{row_of}
use Rattle.format.specs.File as definition
use Rattle.format.specs.declared.answer.Artifact.{Artifact}
use Rattle.reading.specs.Answer.{answer_of, places_of, tables_after}

-- 0 number, 1 first value, 2 second value;
-- 3 caps; 4 and 5 the debug id's low and high half; then start and length of
-- 6, 7 the source name, 8, 9 the name blob, 10, 11 the code, 12, 13 the position table;
-- 14 to 16 the main chunk's entry, end and slots; 17 the top constants;
-- 18 to 30 the rows used in tables 1 to 13; 31 zero
abbrev pub accepted_words : Artifact → List ℕ
accepted_words a =
    0 ∷ 0 ∷ 0
    ∷ a.header.caps ∷ a.header.low ∷ a.header.high
    ∷ a.source.start ∷ a.source.size
    ∷ a.blob.start ∷ a.blob.size
    ∷ a.code.start ∷ a.code.size
    ∷ a.positions.start ∷ a.positions.size
    ∷ a.main.entry ∷ a.main.end ∷ a.main.slots
    ∷ a.tops
    ∷ a.used.names ∷ a.used.constants ∷ a.used.tokens ∷ a.used.assigns
    ∷ a.used.chains ∷ a.used.steps
    ∷ a.used.switches ∷ a.used.cases ∷ a.used.ranges
    ∷ a.used.customs ∷ a.used.inputs
    ∷ a.used.functions ∷ a.used.parameters
    ∷ 0 ∷ []

-- on a refusal 3 to 31 are zero
abbrev pub refused_words : Row → List ℕ
refused_words row = row.number ∷ row.first ∷ row.second ∷ replicate 29 0

abbrev pub words_of : Result Artifact Refusal → List ℕ
words_of (Ok a) = accepted_words a
words_of (Err r) = refused_words (row_of r)

-- 0, or the refusal's number
abbrev pub number_in : Result Artifact Refusal → ℕ
number_in (Ok a) = 0
number_in (Err r) = (row_of r).number

-- the result, the answer's words and the final content of every table are those of the definition
pub record Leaves (mask : ℕ) (s : List ℕ) (entry exit : List (List ℕ)) (words : List ℕ) (result : ℕ) : Type 0 where
  pub number : result ≡ number_in (answer_of (definition.read (places_of entry) mask s))
  pub answer : words ≡ words_of (answer_of (definition.read (places_of entry) mask s))
  pub tables : exit ≡ tables_after (definition.read (places_of entry) mask s) entry
