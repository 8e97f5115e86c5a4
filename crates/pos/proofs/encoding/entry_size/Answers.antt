-- Three single bytes, two and a line, or three numbers, each of at most ten.
use Rattle.std.proofs.Common.{sym, arith}
use Rattle.pos.proofs.Puts.{plain_size, plain-line, entry-size, short-ten}
use Rattle.pos.proofs.encoding.entry_size.Goals as goal

pub returns-then-step-site-lt128 : goal.returns-then-step-site-lt128
returns-then-step-site-lt128 c =
    plain_size _ _ c.saturating_sub-step.ensures c.if-step-site-lt128.true

pub overflow_add-result : goal.overflow_add-result
overflow_add-result c =
    omega (arith, short-ten c.args.site.line)

pub returns-then-step-site-lt128-2 : goal.returns-then-step-site-lt128-2
returns-then-step-site-lt128-2 c =
    rw c.width.ensures (sym (plain-line _ _ c.saturating_sub-step.ensures c.if-step-site-lt128-2.true))

pub overflow_add-result-2 : goal.overflow_add-result-2
overflow_add-result-2 c =
    omega (arith, short-ten c.saturating_sub-step.result, short-ten c.args.site.line)

pub overflow_add-result-3 : goal.overflow_add-result-3
overflow_add-result-3 c =
    omega (arith, short-ten c.saturating_sub-step.result, short-ten c.args.site.line, short-ten c.args.site.column)

pub returns : goal.returns
returns c =
    rw (c.width-4.ensures, c.width-3.ensures, c.width-2.ensures, c.saturating_sub-step.ensures) (sym (entry-size _ _))
