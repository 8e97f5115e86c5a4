-- The groups side by side.
use Rattle.varint.proofs.Groups.{joined_is}
use Rattle.varint.proofs.joined.Goals as goal

pub returns : goal.returns
returns c =
    joined_is _ _ _ c.requires.k_bound c.requires.value_bound
