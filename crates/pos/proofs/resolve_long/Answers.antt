-- The count is read as it stands, and the walk begins behind it.
use Rattle.std.proofs.Common.{sym, ◌∙◌}
use Rattle.pos.proofs.Walks.{read_some, read_none, seek-begins, resolving-begins, resolved-refused}
use Rattle.pos.proofs.resolve_long.Goals as goal

pub returns-in_err-count : goal.returns-in_err-count
returns-in_err-count c =
    let read = read_none c.field.result c.in_err-count.ensures.value in
    c.from_residual.ensures ∙ sym (resolved-refused _ _ _ ((rw c.new.ensures at c.field.ensures) ∙ read.1))

pub returns : goal.returns
returns c =
    let read = (rw c.new.ensures at c.field.ensures) ∙ read_some c.field.result c.in_ok-count.ensures.value in
    c.seek.ensures ∙ seek-begins _ _ c.begun.ensures ∙ sym (resolving-begins _ _ _ _ read)
