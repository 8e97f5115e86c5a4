-- The switches before j are put, each with its shares of the cases and of the ranges (`Switching`).
use Rattle.grammar.specs.Combinators.{put_all}
use Rattle.written.specs.Put.{put_switch}
use Rattle.emit.specs.Shares.{switches_of}
use Rattle.emit.proofs.Switching.{Switching}
use Rattle.emit.proofs.switch.switches.Given as goal

abbrev pub invariant-loop-j : goal.invariant-loop-j
invariant-loop-j l = Switching l.t l.used l.cases l.ranges (put_all put_switch (switches_of l.t l.used l.cases l.ranges)) l.initial.out l.initial.place l.j l.from l.behind l.out l.place
