-- `utf8::past_blocks` meets its contract: between characters the blocks that are passed have no say. Assumes nothing.
use Rattle.utf8.proofs.Ascii.{passed_then}
use Rattle.utf8.proofs.Walks.{blocks-walked}
use Rattle.utf8.proofs.past_blocks.Goals as goal

pub returns-then-state-eq-BETWEEN : goal.returns-then-state-eq-BETWEEN
returns-then-state-eq-BETWEEN c =
    blocks-walked _ _ _ _ c.if-state-eq-BETWEEN.true
    (passed_then _ _ _ _ c.past.ensures c.past-then-state-eq-BETWEEN.ensures)
