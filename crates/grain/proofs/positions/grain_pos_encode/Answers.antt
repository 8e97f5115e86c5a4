-- The row of what the call answered, and the bytes that it left.
use mathlib.Core.Path.{◌∙◌, ap}
use Rattle.refusal.specs.declared.Row.{Row}
use Rattle.grain.specs.Positions.{values_of, encoded_row}
use Rattle.grain.proofs.positions.grain_pos_encode.Goals as goal

pub returns : goal.returns
returns c =
    let e = c.encoded_row-row.ensures ∙ ap encoded_row c.encode.ensures.value in record { value = ap (λ (r : Row). r.number) e; values_after = c.put_values.ensures ∙ ap values_of e; out_after = c.encode.ensures.out_after }
