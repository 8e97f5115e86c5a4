-- Each table by the test that its rows are given.
use Rattle.std.proofs.Common.{rules}
use Rattle.model.specs.Rules.{sound_site, sound_input, sound_function, sound_word}
use Rattle.rules.proofs.whole.sound_callables.Goals as goal

pub returns : goal.returns
returns c =
    rw (
      c.every-customs.ensures sound_site (λ row b met. search rules),
      c.every-inputs.ensures sound_input (λ row b met. search rules),
      c.every-functions.ensures sound_function (λ row b met. search rules),
      c.every-parameters.ensures sound_word (λ row b met. search rules),
      c.cut.ensures,
      c.cut-2.ensures,
      c.cut-3.ensures,
      c.cut-4.ensures,
    )
