-- The count, and the ends behind it.
use Rattle.grammar.specs.Number.{shortest}
use Rattle.rows.specs.Back.{end_of}
use Rattle.sizes.proofs.Flat.{listed-rows}
use Rattle.sizes.proofs.lists.name_ends.Goals as goal

pub returns : goal.returns
returns c =
    listed-rows shortest 1 end_of c.args.used c.args.t.now c.number.ensures.value c.plus.ensures c.rows.ensures
