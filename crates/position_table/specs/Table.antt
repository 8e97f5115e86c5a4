-- A position table (document 01): a count, then address step, line and column, each 32 bits.
use Rattle.std.specs.Prelude.{ℕ, zero, suc, Result, Ok, Err, Option, Some, None, ◌+◌, ◌-◌, ◌^◌, List, [], ◌∷◌, length, ltb, eqb, if◌then◌else◌}
use Rattle.refusal.specs.declared.Refusal.{Refusal}
use Rattle.refusal.specs.declared.PositionsFault.{PositionsFault}
use Rattle.refusal.specs.Numbers.{row_of}
use Rattle.grammar.specs.Outcome.{start, Outcome, got, refused, Parser, after, pure, ◌>>=◌, ◌>>◌}
use Rattle.grammar.specs.Combinators.{check}
use Rattle.grammar.specs.Number.{index}
use Rattle.position_table.specs.declared.Site.{Site}
use Rattle.position_table.specs.declared.Position.{Position}

-- in a table a number that is cut short is truncated, and one that is too long or too wide is overflow
abbrev pub in_table : {A : Type 0} → Outcome A → Outcome A
in_table (got v next) = got v next
in_table (refused r) =
    refused (Refusal.Positions (if eqb (row_of r).number 2 then PositionsFault.Truncated else PositionsFault.Overflow))

unfoldable pub field : Parser ℕ
field s c = in_table (index s c)

-- the address that a step reaches: a step of zero is allowed only first, and a sum above 32 bits is overflow
pub data Previous : Type 0 where
  none : Previous
  earlier : ℕ → Previous

unfoldable pub reached : Previous → ℕ → Parser ℕ
reached none step = pure step
reached (earlier address) step = do
  check (ltb 0 step) (Refusal.Positions (PositionsFault.OutOfOrder address))
  check (ltb (address + step) (2 ^ 32)) (Refusal.Positions PositionsFault.Overflow)
  pure (address + step)

-- n entries behind an earlier one
unfoldable pub entries : ℕ → Previous → Parser (List Site)
entries zero previous = pure []
entries (suc n) previous = do
  step ← field
  address ← reached previous step
  line ← field
  column ← field
  others ← entries n (earlier address)
  pure (record { address = address; line = line; column = column } ∷ others)

unfoldable pub table : Parser (List Site)
table = do
  n ← field
  entries n none

-- all of the bytes are the table; what is left over is trailing
unfoldable pub whole : List ℕ → Outcome (List Site)
whole s =
    after (table s start)
    (λ sites next. if eqb next.at (length s) then got sites next
    else refused (Refusal.Positions (PositionsFault.Trailing (length s - next.at))))

abbrev pub as_checked : {A : Type 0} → Outcome A → Result Unit Refusal
as_checked (got v next) = Ok tt
as_checked (refused r) = Err r

unfoldable pub checked : List ℕ → Result Unit Refusal
checked s = as_checked (whole s)

-- how many entries it says it has
abbrev pub as_counted : Outcome ℕ → Result ℕ Refusal
as_counted (got n next) = Ok n
as_counted (refused r) = Err r

unfoldable pub counted : List ℕ → Result ℕ Refusal
counted s = as_counted (field s start)

-- an entry as resolving reads it, whole, behind the address before it: a zero step is walked like any other
unfoldable pub walked : ℕ → Parser Site
walked address = do
  step ← field
  check (ltb (address + step) (2 ^ 32)) (Refusal.Positions PositionsFault.Overflow)
  line ← field
  column ← field
  pure (record { address = address + step; line = line; column = column })

-- the site where the addresses are equal and the line is not 0, else none
abbrev pub site_for : ℕ → Site → Option Position
site_for asked site =
    if eqb site.address asked then (if eqb site.line 0 then None else Some (record { line = site.line; column = site.column }))
    else None

-- the walk stops at the first entry whose address equals or passes the one asked
unfoldable pub seek : ℕ → ℕ → ℕ → Parser (Option Position)
seek zero asked address = pure None
seek (suc n) asked address = do
  site ← walked address
  if ltb site.address asked then seek n asked site.address else pure (site_for asked site)

-- a break before the walk stops gives none
abbrev pub or_none : Outcome (Option Position) → Option Position
or_none (got r next) = r
or_none (refused r) = None

unfoldable pub resolved : List ℕ → ℕ → Option Position
resolved s asked = or_none ((do
  n ← field
  seek n asked 0) s start)
