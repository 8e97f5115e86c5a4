-- One section behind another.
use Rattle.sizes.proofs.Laws.{counts-then}
use native.Mathlib.Omega.{arith}
use Rattle.writing.specs.Halves.{front_of}
use Rattle.writing.proofs.Rows.{ends_there, constants-fit, tokens-there, assigns-there}
use Rattle.writing.proofs.Counted.{header-counts}
use Rattle.writing.proofs.count.front.Goals as goal

pub name_ends-ends-requires : goal.name_ends-ends-requires
name_ends-ends-requires c =
    record { at_bound = omega arith; used_in_bounds = ends_there c.requires }

pub constants-tree-requires : goal.constants-tree-requires
constants-tree-requires c =
    record { at_bound = omega arith; constants_fit = constants-fit c.requires }

pub tokens-tokens-requires : goal.tokens-tokens-requires
tokens-tokens-requires c =
    record { at_bound = omega arith; used_in_bounds = tokens-there c.requires }

pub assigns-requires : goal.assigns-requires
assigns-requires c =
    record { at_bound = omega arith; used_in_bounds = assigns-there c.requires }

pub returns : goal.returns
unfolding front_of
returns c =
    counts-then (header-counts c.args.l.now.outside.header) (counts-then c.text-source.ensures (counts-then c.name_ends-ends.ensures (counts-then c.text-blob.ensures (counts-then c.constants-tree.ensures (counts-then c.tokens-tokens.ensures c.assigns.ensures)))))
