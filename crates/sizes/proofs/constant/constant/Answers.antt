-- The numbers, and the text where the tag has one.
use Rattle.sizes.proofs.Tags.{constant-counts}
use Rattle.sizes.proofs.constant.constant.Goals as goal

pub returns : goal.returns
returns c =
    constant-counts c.args.row c.args.s.now c.words.ensures.value c.texted.ensures c.spanned.ensures c.when-told.ensures.value c.plus.ensures
