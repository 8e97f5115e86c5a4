-- The run is taken, then the table is checked; the part that is lent is the run.
use mathlib.Core.Path.{◌∙◌, sym}
use native.Mathlib.Omega.{arith}
use borrow.Author.Tests.{eq-eqb, ne_eqb}
use Rattle.grammar.specs.Outcome.{◌>>=◌, pure, refuse}
use Rattle.grammar.proofs.Read.{answer_refused}
use Rattle.utf8.proofs.Short.{whole_run}
use Rattle.format.specs.File.{positions, sound}
use Rattle.sections.proofs.Texts.{bytes_run}
use Rattle.sections.proofs.positions.positions.Goals as goal

pub returns-then-table-eq0 : goal.returns-then-table-eq0
unfolding positions sound ◌>>=◌ pure
returns-then-table-eq0 c =
    rw (c.in_ok-table.ensures, eq-eqb _ _ c.if-table-eq0.true)

pub overflow_add-end : goal.overflow_add-end
overflow_add-end c =
    omega (arith, (bytes_run _ _ _ _ c.in_ok-table.ensures).within, c.well_formed)

pub slice_bounds-check_long-end : goal.slice_bounds-check_long-end
slice_bounds-check_long-end c =
    omega (arith, (bytes_run _ _ _ _ c.in_ok-table.ensures).within)

pub returns-in_err-check_long : goal.returns-in_err-check_long
unfolding positions sound ◌>>=◌ refuse
returns-in_err-check_long c =
    let told = sym (rw (whole_run c.in_ok-table.table.start c.in_ok-table.table.size) at c.check_long.ensures) ∙ c.in_err-check_long.was in
    rw (c.in_ok-table.ensures, ne_eqb _ _ c.if-table-eq0.false, told) (sym (answer_refused _ _ _ c.from_residual-in_err-check_long.ensures.1))

pub returns : goal.returns
unfolding positions sound ◌>>=◌ pure
returns c =
    let told = sym (rw (whole_run c.in_ok-table.table.start c.in_ok-table.table.size) at c.check_long.ensures) ∙ c.in_ok-check_long.was in
    rw (c.in_ok-table.ensures, ne_eqb _ _ c.if-table-eq0.false, told)
