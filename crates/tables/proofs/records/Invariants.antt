-- Some records are read and stored (`Filling`), whatever their rows are.
use Rattle.std.proofs.Common.{◌≡◌, ◌-◌, ◌/◌, length, List, ℕ}
use Rattle.grammar.specs.Outcome.{Parser}
use Rattle.tables.specs.Table.{ReadsRows}
use Rattle.tables.proofs.Filling.{Filling}
use Rattle.tables.proofs.records.Given as goal

abbrev pub invariant-loop : goal.invariant-loop
invariant-loop g l =
    (length l.t ≡ length l.initial.t)
    × ((s : List ℕ) (p : Parser (List ℕ)) → ReadsRows (goal.F-post g l.read) g.R.Into.converts s p →
    Filling l.table (length l.initial.t / g.row.W) p (λ row. row) g.row.W s l.initial.c l.n l.from l.initial.t l.t l.c (l.n - l.counter) l.used)
