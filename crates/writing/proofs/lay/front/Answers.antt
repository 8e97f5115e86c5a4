-- One section behind another.
use Rattle.emit.proofs.Laws.{puts_then}
use Rattle.writing.specs.Halves.{front_of}
use Rattle.writing.proofs.Rows.{ends_there, constants-fit, tokens-there, assigns-there}
use Rattle.writing.proofs.lay.front.Goals as goal

pub name_ends-ends-requires : goal.name_ends-ends-requires
name_ends-ends-requires c =
    ends_there c.requires

pub constants-tree-requires : goal.constants-tree-requires
constants-tree-requires c =
    constants-fit c.requires

pub tokens-tokens-requires : goal.tokens-tokens-requires
tokens-tokens-requires c =
    tokens-there c.requires

pub assigns-requires : goal.assigns-requires
assigns-requires c =
    assigns-there c.requires

pub returns : goal.returns
unfolding front_of
returns c =
    puts_then c.header-start.ensures (puts_then c.text-source.ensures (puts_then c.name_ends-ends.ensures (puts_then c.text-blob.ensures (puts_then c.constants-tree.ensures (puts_then c.tokens-tokens.ensures c.assigns.ensures)))))
