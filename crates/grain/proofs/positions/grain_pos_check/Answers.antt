-- The row of what the call answered.
use mathlib.Core.Path.{◌∙◌, ap}
use Rattle.refusal.specs.declared.Row.{Row}
use Rattle.grain.specs.Positions.{values_of, checked_row}
use Rattle.grain.proofs.positions.grain_pos_check.Goals as goal

pub returns : goal.returns
returns c =
    let e = c.checked_row-row.ensures ∙ ap checked_row c.check.ensures in record { value = ap (λ (r : Row). r.number) e; values_after = c.put_values.ensures ∙ ap values_of e }
