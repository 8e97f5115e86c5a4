-- The reads and the tests, in the order of the definition; the first four of them the check finds alone.
use mathlib.Core.Path.{sym}
use borrow.Author.Tests.{eq-eqb, ne_eqb}
use Rattle.grammar.specs.Outcome.{◌>>=◌, pure, refuse}
use Rattle.grammar.specs.Combinators.{check}
use Rattle.grammar.proofs.Read.{answer_refused}
use Rattle.format.specs.File.{header}
use Rattle.sections.specs.Answers.{header_of}
use Rattle.sections.proofs.Taken.{text_of, magic_test}
use Rattle.sections.proofs.header.header.Goals.{then-int-ne-WIDTH-via-then-int-ne-WIDTH, then-int-ne-WIDTH-via-else-int-ne-WIDTH+then-float-ne-WIDTH}
use Rattle.sections.proofs.header.header.Goals as goal

pub returns-in_err-float : goal.returns-in_err-float
unfolding header check ◌>>=◌ pure refuse
returns-in_err-float c =
    rw (text_of 4 _ _ c.in_ok-magic.ensures, magic_test _ c.ne.ensures, c.if-ne.false, c.in_ok-version.ensures, eq-eqb _ 11 c.if-version-ne-VERSION.false, c.in_ok-int.ensures, c.in_err-float.ensures)
    (sym (answer_refused header_of _ _ c.from_residual-in_err-float.ensures.1))

pub returns-in_err-caps : goal.returns-in_err-caps
unfolding header check ◌>>=◌ pure refuse
returns-in_err-caps c =
    rw (text_of 4 _ _ c.in_ok-magic.ensures, magic_test _ c.ne.ensures, c.if-ne.false, c.in_ok-version.ensures, eq-eqb _ 11 c.if-version-ne-VERSION.false, c.in_ok-int.ensures, c.in_ok-float.ensures, c.in_err-caps.ensures)
    (sym (answer_refused header_of _ _ c.from_residual-in_err-caps.ensures.1))

pub returns-then-int-ne-WIDTH : goal.returns-then-int-ne-WIDTH
unfolding header check ◌>>=◌ pure refuse
returns-then-int-ne-WIDTH c =
    rw (text_of 4 _ _ c.in_ok-magic.ensures, magic_test _ c.ne.ensures, c.if-ne.false, c.in_ok-version.ensures, eq-eqb _ 11 c.if-version-ne-VERSION.false, c.in_ok-int.ensures, c.in_ok-float.ensures, c.in_ok-caps.ensures)
    (elim c.then-int-ne-WIDTH.branch [
      | then-int-ne-WIDTH-via-then-int-ne-WIDTH w ↦ rw (ne_eqb _ 8 w.if-int-ne-WIDTH.true)
      | then-int-ne-WIDTH-via-else-int-ne-WIDTH+then-float-ne-WIDTH w ↦ rw (eq-eqb _ 8 w.if-int-ne-WIDTH.false, ne_eqb _ 8 w.if-float-ne-WIDTH.true)
    ])

pub returns-in_err-low : goal.returns-in_err-low
unfolding header check ◌>>=◌ pure refuse
returns-in_err-low c =
    rw (text_of 4 _ _ c.in_ok-magic.ensures, magic_test _ c.ne.ensures, c.if-ne.false, c.in_ok-version.ensures, eq-eqb _ 11 c.if-version-ne-VERSION.false, c.in_ok-int.ensures, c.in_ok-float.ensures, c.in_ok-caps.ensures, eq-eqb _ 8 c.if-int-ne-WIDTH.false, eq-eqb _ 8 c.if-float-ne-WIDTH.false, c.in_err-low.ensures)
    (sym (answer_refused header_of _ _ c.from_residual-in_err-low.ensures.1))

pub returns-in_err-high : goal.returns-in_err-high
unfolding header check ◌>>=◌ pure refuse
returns-in_err-high c =
    rw (text_of 4 _ _ c.in_ok-magic.ensures, magic_test _ c.ne.ensures, c.if-ne.false, c.in_ok-version.ensures, eq-eqb _ 11 c.if-version-ne-VERSION.false, c.in_ok-int.ensures, c.in_ok-float.ensures, c.in_ok-caps.ensures, eq-eqb _ 8 c.if-int-ne-WIDTH.false, eq-eqb _ 8 c.if-float-ne-WIDTH.false, c.in_ok-low.ensures, c.in_err-high.ensures)
    (sym (answer_refused header_of _ _ c.from_residual-in_err-high.ensures.1))

pub returns : goal.returns
unfolding header check ◌>>=◌ pure refuse
returns c =
    rw (text_of 4 _ _ c.in_ok-magic.ensures, magic_test _ c.ne.ensures, c.if-ne.false, c.in_ok-version.ensures, eq-eqb _ 11 c.if-version-ne-VERSION.false, c.in_ok-int.ensures, c.in_ok-float.ensures, c.in_ok-caps.ensures, eq-eqb _ 8 c.if-int-ne-WIDTH.false, eq-eqb _ 8 c.if-float-ne-WIDTH.false, c.in_ok-low.ensures, c.in_ok-high.ensures)
