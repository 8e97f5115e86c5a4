-- Each table by the test that its rows are given.
use Rattle.std.proofs.Common.{rules, not, ◌&&◌, ◌||◌}
use Rattle.model.specs.Rules.{tag, is_text, span_at, named}
use Rattle.rules.proofs.whole.strings_are_utf8.Goals as goal

pub returns : goal.returns
returns c =
    let l = c.args.l.now in
    rw (
      c.is_utf8_at.ensures,
      c.every.ensures (λ row. not (named (tag row)) || is_text l.text.now (span_at 3 row)) (λ row b met. search rules),
      c.keys.ensures (λ row. is_text l.text.now (span_at 6 row)) (λ row b met. search rules),
      c.every-tokens.ensures (λ row. is_text l.text.now (span_at 0 row)) (λ row b met. search rules),
      c.every-assigns.ensures (λ row. is_text l.text.now (span_at 0 row) && is_text l.text.now (span_at 3 row)) (λ row b met. search rules),
      c.cut-constants.ensures,
      c.cut.ensures,
      c.cut-2.ensures,
    )
