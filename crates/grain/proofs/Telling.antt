-- What `grain_read` leaves, from what the reader answered.
use Rattle.format.specs.declared.answer.Artifact.{Artifact}
use Rattle.refusal.specs.declared.Refusal.{Refusal}
use Rattle.std.specs.Prelude.{Result, Ok, Err}
use Prim.Native.Nat.{ℕ}
use mathlib.Core.Path.{◌≡◌, ◌∙◌, ap, refl}
use mathlib.Core.List.{List}
use lib.ListN.{get_or}
use Rattle.reading.specs.Answer.{Answered}
use Rattle.grain.specs.Words.{words_of, number_in, Leaves}

-- an answer's first word is its number
pub first_word : (a : Result Artifact Refusal) → get_or (words_of a) 0 0 ≡ number_in a
first_word (Ok a) = refl
first_word (Err r) = refl

pub leaves : {mask : ℕ} {s : List ℕ} {entry exit : List (List ℕ)} {a : Result Artifact Refusal} {words : List ℕ} {result : ℕ}
    → Answered mask s entry exit a → words ≡ words_of a → result ≡ get_or words 0 0 → Leaves mask s entry exit words result
leaves {mask} {s} {entry} {exit} {a} answered told first =
    record {
      number = first ∙ ap (λ (w : List ℕ). get_or w 0 0) told ∙ first_word a ∙ ap number_in answered.result;
      answer = told ∙ ap words_of answered.result;
      tables = answered.tables;
    }
