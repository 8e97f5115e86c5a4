-- Each table by the test that its rows are given.
use Rattle.std.proofs.Common.{rules}
use Rattle.model.specs.Rules.{span_at}
use Rattle.rules.specs.Once.{text_keeps, constant_keeps, assign_keeps}
use Rattle.rules.proofs.once.texts_keep.Goals as goal

pub returns : goal.returns
returns c =
    let l = c.args.l.now in
    rw (
      c.every.ensures (constant_keeps l.text.now) (λ row b met. search rules),
      c.keys.ensures (λ row. text_keeps l.text.now (span_at 6 row)) (λ row b met. search rules),
      c.every-tokens.ensures (λ row. text_keeps l.text.now (span_at 0 row)) (λ row b met. search rules),
      c.every-assigns.ensures (assign_keeps l.text.now) (λ row b met. search rules),
      c.cut-constants.ensures,
      c.cut.ensures,
      c.cut-2.ensures,
    )
