-- The reads and the tests, in the order of the definition.
use mathlib.Core.Path.{refl, sym, ◌∙◌}
use borrow.Author.Tests.{eq-eqb, ne_eqb}
use Rattle.grammar.specs.Outcome.{◌>>=◌, pure, refuse}
use Rattle.grammar.specs.Combinators.{check, left}
use Rattle.format.specs.File.{names}
use Rattle.sections.proofs.Texts.{bytes_run}
use Rattle.sections.proofs.Ending.{ends_got, ends_not, names_refused, names_got, fell, rose}
use Rattle.sections.proofs.names.names.Goals as goal

pub returns-then-not-has : goal.returns-then-not-has
unfolding names left check ◌>>=◌ pure refuse
returns-then-not-has c =
    names_refused refl (rw (c.in_ok-n.ensures, sym c.has.ensures ∙ c.if-not-has.true))

pub returns-in_err-used : goal.returns-in_err-used
unfolding names left check ◌>>=◌ pure refuse
returns-in_err-used c =
    names_refused c.from_residual-in_err-used.ensures.1 (rw (c.in_ok-n.ensures, sym c.has.ensures ∙ c.if-not-has.false, ends_not c.end_rows.ensures c.in_err-used.was))

pub returns-in_err-blob : goal.returns-in_err-blob
unfolding names left check ◌>>=◌ pure refuse
returns-in_err-blob c =
    let g = ends_got c.end_rows.ensures c.in_ok-used.was in
    names_refused c.from_residual-in_err-blob.ensures.1 (rw (c.in_ok-n.ensures, sym c.has.ensures ∙ c.if-not-has.false, g.is, c.in_err-blob.ensures))

pub returns-in_default : goal.returns-in_default
unfolding names left check ◌>>=◌ pure refuse
returns-in_default c =
    let g = ends_got c.end_rows.ensures c.in_ok-used.was in
    names_refused refl (rw (c.in_ok-n.ensures, sym c.has.ensures ∙ c.if-not-has.false, g.is, c.in_ok-blob.ensures, fell g.all (g.known ∙ c.in_default.is)))

pub returns-then-last-blob : goal.returns-then-last-blob
unfolding names left check ◌>>=◌ pure refuse
returns-then-last-blob c =
    let g = ends_got c.end_rows.ensures c.in_ok-used.was in
    names_refused refl (rw (c.in_ok-n.ensures, sym c.has.ensures ∙ c.if-not-has.false, g.is, c.in_ok-blob.ensures, (rose g.all (g.known ∙ c.in-Some.is)).0, (rose g.all (g.known ∙ c.in-Some.is)).1, (bytes_run _ _ _ _ c.in_ok-blob.ensures).whole, ne_eqb _ _ c.if-last-blob.true))

pub returns-then-not-is_text : goal.returns-then-not-is_text
unfolding names left check ◌>>=◌ pure refuse
returns-then-not-is_text c =
    let g = ends_got c.end_rows.ensures c.in_ok-used.was in
    names_refused refl
    (rw (c.in_ok-n.ensures, sym c.has.ensures ∙ c.if-not-has.false, g.is, c.in_ok-blob.ensures, (rose g.all (g.known ∙ c.in-Some.is)).0, (rose g.all (g.known ∙ c.in-Some.is)).1, (bytes_run _ _ _ _ c.in_ok-blob.ensures).whole, eq-eqb _ _ c.if-last-blob.false, sym c.is_text.ensures ∙ c.if-not-is_text.true))

pub returns : goal.returns
unfolding names left check ◌>>=◌ pure refuse
returns c =
    let g = ends_got c.end_rows.ensures c.in_ok-used.was in
    names_got g
    (simp (c.in_ok-n.ensures, sym c.has.ensures ∙ c.if-not-has.false, g.is, c.in_ok-blob.ensures, (rose g.all (g.known ∙ c.in-Some.is)).0, (rose g.all (g.known ∙ c.in-Some.is)).1, (bytes_run _ _ _ _ c.in_ok-blob.ensures).whole, eq-eqb _ _ c.if-last-blob.false, sym c.is_text.ensures ∙ c.if-not-is_text.false))
