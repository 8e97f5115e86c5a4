-- `utf8::is_utf8_from` meets its contract. The loop's invariant: the tables are right, and the walk so far is one from the start.
-- That the tables are right is a test that antt computes at each byte and state. Assumes nothing.
use borrow.Author.Rules.{rules}
use native.Mathlib.Omega.{arith}
use Rattle.utf8.specs.Syntax.{UTF8-char}
use Rattle.utf8.specs.Check.{first, next}
use Rattle.utf8.specs.Machine.{states, state_of, looked, Walked}
use Rattle.utf8.proofs.Tables.{below, same_row, same, right, tables}
use Rattle.utf8.proofs.Walks.{walked_here, walked_then, refused-answers, answered}
use Rattle.utf8.proofs.is_utf8_from.Goals as goal
use Rattle.utf8.proofs.is_utf8_from.Goals.{After-walk-state}

pub loop-at-init : goal.loop-at-init
unfolding below right looked same same_row state_of states next first UTF8-char
loop-at-init c =
    (tables _ _ tt, walked_here _ _ _ (search rules) c.requires)

-- the walk from the start, behind one more chunk
farther : (c : After-walk-state)
    → Walked c.args.bytes.now 6 c.args.from c.walk-state.result c.chunk_end-end.result
farther c =
    walked_then _ _ _ _ _ _ _ c.loop-at.invariant.1
    (walked_then _ _ _ _ _ _ _ c.past_blocks-start.ensures c.walk-state.ensures)

pub returns-then-state-eq-REFUSED : goal.returns-then-state-eq-REFUSED
returns-then-state-eq-REFUSED c =
    refused-answers _ _ _ _ c.if-state-eq-REFUSED.true (farther (goal.at.returns-then-state-eq-REFUSED c).After-walk-state)

pub loop-at-smaller : goal.loop-at-smaller
loop-at-smaller c =
    omega (arith, c.chunk_end-end.ensures, c.past_blocks-start.ensures.up)

pub loop-at-preserved : goal.loop-at-preserved
loop-at-preserved c =
    (c.loop-at.invariant.0, farther (goal.at.loop-at-preserved c).After-walk-state)

pub returns : goal.returns
returns c =
    answered _ _ _ _ c.loop-at.invariant.1 c.loop-at-test.false
