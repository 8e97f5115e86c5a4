-- By the tag, as the definition tests it, one field behind another.
use borrow.Author.Tests.{eq-eqb, ne_eqb}
use Rattle.emit.proofs.Laws.{puts-same, puts_then}
use Rattle.emit.proofs.Stripping.{local-in, temporary-in, named_in, this-in}
use Rattle.emit.proofs.chain.root.Goals as goal

pub returns-then-tag : goal.returns-then-tag
returns-then-tag c =
    rw (eq-eqb _ _ c.if-tag.true) (puts-same (local-in c.args.strip c.args.row) (puts_then c.byte-behind.ensures (puts_then c.small-slot.ensures c.index.ensures)))

pub returns-then-tag-2 : goal.returns-then-tag-2
returns-then-tag-2 c =
    rw (ne_eqb _ _ c.if-tag.false, eq-eqb _ _ c.if-tag-2.true) (puts-same (temporary-in c.args.strip) c.byte.ensures)

pub returns-then-tag-3 : goal.returns-then-tag-3
returns-then-tag-3 c =
    rw (ne_eqb _ _ c.if-tag.false, ne_eqb _ _ c.if-tag-2.false, eq-eqb _ _ c.if-tag-3.true) (puts-same (named_in c.args.strip c.args.row) (puts_then c.byte-behind-then-tag-3.ensures (puts_then c.index-named.ensures c.position.ensures)))

pub returns : goal.returns
returns c =
    rw (ne_eqb _ _ c.if-tag.false, ne_eqb _ _ c.if-tag-2.false, ne_eqb _ _ c.if-tag-3.false) (puts-same (this-in c.args.strip c.args.row) (puts_then c.byte-behind-2.ensures c.position-2.ensures))
