-- The loop has read some chains and stored their rows, and those of their steps (`Both`).
use Prim.Native.Nat.{◌/◌}
use lib.ListN.{length}
use Rattle.format.specs.File.{chain}
use Rattle.format.specs.Rows.{chain_row, step_row}
use Rattle.tables.proofs.Both.{Both}
use Rattle.chains.proofs.chain_rows.Given as goal

abbrev pub invariant-loop : goal.invariant-loop
invariant-loop l = Both 5 (length l.initial.t / 9) (chain (length l.initial.steps / 11) l.mask) chain_row 9 step_row 11 l.s l.initial.at l.n l.initial.t l.t l.initial.steps l.steps l.at l.counter l.own l.used
