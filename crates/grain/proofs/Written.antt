-- What `grain_write` tells, from what the writer answered.
use Prim.Native.Nat.{ℕ}
use mathlib.Core.Path.{◌≡◌, ◌∙◌, ap}
use mathlib.Core.List.{List}
use Rattle.refusal.specs.declared.Row.{Row}
use Rattle.refusal.specs.declared.Refusal.{Refusal}
use Rattle.std.specs.Prelude.{Result, Ok, Err}
use Rattle.model.specs.Lent.{Lent}
use Rattle.model.specs.Written.{Writes}
use Rattle.grain.specs.Positions.{values_of}
use Rattle.grain.specs.Heading.{written_row, stripped, Tells}

pub tells : {mask strip : ℕ} {m : Lent} {entry exit pair : List ℕ} {w : Result ℕ Refusal} {row : Row}
    → Writes mask (stripped strip) m entry exit w → row ≡ written_row w → pair ≡ values_of row → Tells mask strip m entry exit pair row.number
tells writes told put =
    record {
      number = ap (λ (r : Row). r.number) (told ∙ ap written_row writes.result);
      values = put ∙ ap values_of (told ∙ ap written_row writes.result);
      output = writes.output;
    }
