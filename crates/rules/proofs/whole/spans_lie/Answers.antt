-- Each table by the test that its rows are given.
use Rattle.std.proofs.Common.{rules, not, ◌&&◌, ◌||◌}
use Rattle.model.specs.Rules.{tag, lies, span_at, texted}
use Rattle.rules.proofs.whole.spans_lie.Goals as goal

pub returns : goal.returns
returns c =
    let l = c.args.l.now in
    rw (
      c.outside_lies.ensures,
      c.every.ensures (λ row. not (texted (tag row)) || lies l.text.now (span_at 3 row)) (λ row b met. search rules),
      c.keys.ensures (λ row. lies l.text.now (span_at 6 row)) (λ row b met. search rules),
      c.every-tokens.ensures (λ row. lies l.text.now (span_at 0 row)) (λ row b met. search rules),
      c.every-assigns.ensures (λ row. lies l.text.now (span_at 0 row) && lies l.text.now (span_at 3 row)) (λ row b met. search rules),
      c.cut-constants.ensures,
      c.cut.ensures,
      c.cut-2.ensures,
    )
