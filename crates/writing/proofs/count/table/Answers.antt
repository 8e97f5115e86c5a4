-- By the way asked; an empty table is its count.
use mathlib.Core.Path.{◌∙◌, sym, ap}
use mathlib.Core.List.{append-nil}
use lib.ListN.{length}
use Rattle.grammar.specs.Number.{shortest}
use Rattle.sizes.proofs.Laws.{counts-size}
use Rattle.writing.proofs.count.table.Goals as goal

pub returns-then-strip : goal.returns-then-strip
returns-then-strip c =
    rw c.if-strip.true (counts-size (c.number.ensures.value ∙ ap length (sym (append-nil (shortest 0)))) c.plus.ensures)

pub returns-else-strip : goal.returns-else-strip
returns-else-strip c =
    rw c.if-strip.false c.text.ensures
