-- What the first pass of encoding finds: the first offence, or how many sites are kept and what their table takes.
use Rattle.std.specs.Prelude.{ℕ, ◌-◌, List, ◌++◌, length, Result, Ok, Err}
use Rattle.refusal.specs.declared.Refusal.{Refusal}
use Rattle.grammar.specs.Number.{shortest}
use Rattle.position_table.specs.declared.Site.{Site}
use Rattle.position_table.specs.Table.{none}
use Rattle.position_table.specs.Encode.{kept, Order, ascending, offence, order, bytes_of}
use Rattle.pos.specs.declared.encoding.Measured.{Measured}

-- a site behind the address before it
unfoldable pub entry_of : ℕ → Site → List ℕ
entry_of previous site = shortest (site.address - previous) ++ (shortest site.line ++ shortest site.column)

abbrev pub in_order : Order → Measured → Result Measured Refusal
in_order ascending m = Ok m
in_order (offence address before) m = Err (Refusal.NotAscending address before)

abbrev pub all_of : List Site → Measured
all_of sites = record { kept = length (kept sites); size = length (bytes_of (kept sites)) }

unfoldable pub measured_of : List Site → Result Measured Refusal
measured_of sites = in_order (order none (kept sites)) (all_of sites)
