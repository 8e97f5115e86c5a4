-- The count, and the texts behind it.
use Rattle.rows.specs.Back.{span_of}
use Rattle.model.specs.Lent.{clip}
use Rattle.written.specs.Put.{put_bytes}
use Rattle.sizes.proofs.Flat.{listed-rows}
use Rattle.sizes.proofs.lists.tokens.Goals as goal

pub returns : goal.returns
returns c =
    listed-rows put_bytes 2 (λ row. clip c.args.s.now (span_of row)) c.args.used c.args.t.now c.number.ensures.value c.plus.ensures c.rows.ensures
