-- An entry alone, over the definitions of Table: what a check and resolving both read, told the least step that may follow.
use Rattle.std.specs.Prelude.{ℕ, ◌+◌, ◌-◌, ◌^◌, List, length, leb, ltb, ◌==◌, nat_eq, Result, Ok, Err, if◌then◌else◌}
use Rattle.refusal.specs.declared.Refusal.{Refusal}
use Rattle.refusal.specs.declared.PositionsFault.{PositionsFault}
use Rattle.refusal.specs.Numbers.{row_of}
use Rattle.grammar.specs.Outcome.{Outcome, got, refused, Parser, pure, ◌>>=◌, ◌>>◌}
use Rattle.grammar.specs.Combinators.{check}
use Rattle.position_table.specs.declared.Site.{Site}
use Rattle.position_table.specs.Table.{field}

-- what a table says of a refused number
abbrev pub in_table_of : Refusal → Refusal
in_table_of r = Refusal.Positions (if nat_eq (row_of r).number 2 then PositionsFault.Truncated else PositionsFault.Overflow)

-- the line and the column that stand behind an address
unfoldable pub placed : ℕ → Parser Site
placed address = do
  line ← field
  column ← field
  pure (record { address = address; line = line; column = column })

unfoldable pub entry_at : ℕ → ℕ → Parser Site
entry_at least address = do
  step ← field
  check (leb least step) (Refusal.Positions (PositionsFault.OutOfOrder address))
  check (ltb (address + step) (2 ^ 32)) (Refusal.Positions PositionsFault.Overflow)
  placed (address + step)

-- a place where the entries end: all of the bytes are read, or some are left over
abbrev pub ended_at : ℕ → ℕ → Result Unit Refusal
ended_at size at = if at == size then Ok tt else Err (Refusal.Positions (PositionsFault.Trailing (size - at)))

abbrev pub ends_as : {A : Type 0} → List ℕ → Outcome A → Result Unit Refusal
ends_as s (got v next) = ended_at (length s) next.at
ends_as s (refused r) = Err r
