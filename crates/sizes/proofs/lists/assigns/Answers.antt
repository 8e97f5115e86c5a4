-- The count, and the records behind it.
use Rattle.rows.specs.Back.{assign_of}
use Rattle.model.specs.Tables.{assign_means}
use Rattle.written.specs.Put.{put_assign}
use Rattle.sizes.proofs.Flat.{listed-rows}
use Rattle.sizes.proofs.lists.assigns.Goals as goal

pub returns : goal.returns
returns c =
    listed-rows put_assign 6 (λ row. assign_means c.args.s.now (assign_of row)) c.args.used c.args.t.now c.number.ensures.value c.plus.ensures c.rows.ensures
