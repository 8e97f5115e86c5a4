-- The loop has read some functions and stored their rows, and those of their parameters (`Both`).
use Prim.Native.Nat.{◌/◌}
use lib.ListN.{length}
use Rattle.format.specs.File.{function}
use Rattle.format.specs.Rows.{function_row, parameter_row}
use Rattle.tables.proofs.Both.{Both}
use Rattle.callables.proofs.functions.function_rows.Given as goal

abbrev pub invariant-loop : goal.invariant-loop
invariant-loop l = Both 12 (length l.initial.t / 7) (function (length l.initial.parameters)) function_row 7 parameter_row 1 l.s l.initial.at l.n l.initial.t l.t l.initial.parameters l.parameters l.at l.counter l.own l.used
