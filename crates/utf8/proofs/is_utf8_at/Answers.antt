-- `utf8::is_utf8_at` meets its contract: the part that is lent is the run, cut where the bytes end. Assumes nothing.
use mathlib.Core.Path.{◌∙◌, sym, ap}
use native.Mathlib.Omega.{arith}
use Rattle.utf8.specs.Check.{is_utf8}
use Rattle.utf8.proofs.Short.{none-there, cut-there, run-text}
use Rattle.utf8.proofs.is_utf8_at.Goals as goal

pub returns-then-s-start : goal.returns-then-s-start
returns-then-s-start c =
    none-there c.args.s.now c.args.start c.args.size c.if-s-start.true

pub returns-then-s-start-2 : goal.returns-then-s-start-2
returns-then-s-start-2 c =
    c.is_utf8.ensures ∙ ap is_utf8 (sym (cut-there c.args.s.now c.args.start c.args.size (omega arith)))

pub returns-then-is_short_ascii : goal.returns-then-is_short_ascii
returns-then-is_short_ascii c =
    sym (c.is_short_ascii.ensures.text c.if-is_short_ascii.true)

pub returns-then-size-lt32 : goal.returns-then-size-lt32
returns-then-size-lt32 c =
    c.is_utf8_by_byte.ensures ∙ run-text c.args.s.now c.args.start c.args.size

pub returns : goal.returns
returns c =
    c.is_utf8-2.ensures ∙ run-text c.args.s.now c.args.start c.args.size
