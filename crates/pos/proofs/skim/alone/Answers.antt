-- Four bytes: a count of one, and an entry of single bytes.
use Rattle.std.proofs.Common.{arith, ltb-true}
use Rattle.pos.proofs.Walks.{alone-sound}
use Rattle.pos.proofs.skim.alone.Goals as goal

pub returns : goal.returns
returns c =
    λ e. alone-sound _ (omega arith) (omega arith) (ltb-true _ _ e)
