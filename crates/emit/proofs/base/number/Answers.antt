-- A single byte, or more.
use mathlib.Core.Path.{sym}
use Rattle.grammar.specs.Number.{shortest}
use Rattle.varint.proofs.Shortest.{last-group}
use Rattle.emit.proofs.Laws.{puts-same}
use Rattle.emit.proofs.base.number.Goals as goal

pub returns-then-v-lt128 : goal.returns-then-v-lt128
unfolding shortest
returns-then-v-lt128 c =
    puts-same (sym (last-group 9 _ c.if-v-lt128.true)) c.byte.ensures
