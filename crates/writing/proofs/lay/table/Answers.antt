-- By the way asked; an empty table is its count.
use mathlib.Core.Path.{sym}
use mathlib.Core.List.{append-nil}
use Rattle.grammar.specs.Number.{shortest}
use Rattle.emit.proofs.Laws.{puts-same}
use Rattle.writing.proofs.lay.table.Goals as goal

pub returns-then-strip : goal.returns-then-strip
returns-then-strip c =
    rw c.if-strip.true (puts-same (sym (append-nil (shortest 0))) c.number.ensures)

pub returns-else-strip : goal.returns-else-strip
returns-else-strip c =
    rw c.if-strip.false c.text.ensures
