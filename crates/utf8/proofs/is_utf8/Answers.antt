-- `utf8::is_utf8` meets its contract: the ASCII in front has no say, and behind it stands nothing or what the machine answers for.
-- Assumes nothing.
use mathlib.Core.Path.{◌∙◌, sym}
use Rattle.utf8.specs.Machine.{Passed}
use Rattle.utf8.proofs.Ascii.{passed_then, all-passed}
use Rattle.utf8.proofs.is_utf8.Goals as goal
use Rattle.utf8.proofs.is_utf8.Goals.{After-past-at}

-- the three ways past ASCII, one after another
in-front : (c : After-past-at) → Passed c.args.bytes.now 0 c.past-at.result
in-front c =
    passed_then _ _ _ _
    (passed_then _ _ _ _ c.past.ensures c.past-2.ensures)
    c.past-at.ensures

pub returns-then-at-bytes : goal.returns-then-at-bytes
returns-then-at-bytes c =
    c.is_utf8_from.ensures ∙ sym (in-front (goal.at.returns-then-at-bytes c).After-past-at).same

pub returns-else-at-bytes : goal.returns-else-at-bytes
returns-else-at-bytes c =
    all-passed _ _ (in-front (goal.at.returns-else-at-bytes c).After-past-at) c.if-at-bytes.false
