-- A short count is the number that the definition reads.
use Rattle.std.proofs.Common.{sym, ◌∙◌}
use Rattle.pos.proofs.Walks.{resolving-begins}
use Rattle.pos.proofs.resolve.Goals as goal

pub returns-in-Some : goal.returns-in-Some
returns-in-Some c =
    c.resolve_from.ensures ∙ sym (resolving-begins _ _ _ _ (rw c.new.ensures at c.in-Some.ensures))
