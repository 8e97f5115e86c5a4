-- `utf8::is_utf8_by_byte` meets its contract: one walk, from between two characters. Assumes nothing.
use borrow.Author.Rules.{rules}
use native.Mathlib.Omega.{arith}
use Rattle.utf8.specs.Syntax.{UTF8-char}
use Rattle.utf8.specs.Check.{first, next}
use Rattle.utf8.specs.Machine.{states, state_of, looked}
use Rattle.utf8.proofs.Tables.{below, same_row, same, right, tables}
use Rattle.utf8.proofs.Walks.{answered}
use Rattle.utf8.proofs.is_utf8_by_byte.Goals as goal

pub walk-requires : goal.walk-requires
unfolding below right looked same same_row state_of states next first UTF8-char
walk-requires c =
    record { from_le_end = (omega arith, omega arith); numbered = search rules; tables = tables _ _ tt }

pub returns : goal.returns
returns c =
    answered _ _ _ _ c.walk.ensures (omega arith)
