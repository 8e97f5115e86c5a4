-- The tests are that the bytes stand there.
use Rattle.std.proofs.Common.{rules, ◌≡◌}
use native.Mathlib.Omega.{arith}
use Rattle.sections.specs.Answers.{run}
use Rattle.sections.proofs.Taken.{too_few, all_there}
use Rattle.sections.proofs.fixed.bytes.Goals as goal

pub returns-then-s-at : goal.returns-then-s-at
returns-then-s-at g c =
    too_few _ _ _ (omega arith)

pub returns : goal.returns
returns g c =
    let copied : c.copy_from_slice.new.self ≡ run g.row.N c.args.s.now c.args.c.at = search rules in
    rw (c.advance.ensures, copied) (all_there _ _ _ (omega arith))
