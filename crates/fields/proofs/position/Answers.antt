-- Two bytes by one test, or two numbers.
use native.Mathlib.Omega.{arith}
use Rattle.fields.proofs.Runs.{two_bytes}
use Rattle.fields.proofs.position.Goals as goal

pub returns : goal.returns
returns c =
    rw (c.at_line.ensures, c.wide.ensures, c.wide-2.ensures, c.advance.ensures)
    (two_bytes c.args.s.now c.args.c (omega arith) c.if-line-column-ge128.false)
