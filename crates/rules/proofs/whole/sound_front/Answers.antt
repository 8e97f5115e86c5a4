-- Each table by the test that its rows are given.
use Rattle.std.proofs.Common.{rules}
use Rattle.model.specs.Rules.{sound_assign, sound_chain, sound_step, sound_word}
use Rattle.rules.proofs.whole.sound_front.Goals as goal

pub returns : goal.returns
returns c =
    rw (
      c.every-ends.ensures sound_word (λ row b met. search rules),
      c.every-assigns.ensures sound_assign (λ row b met. search rules),
      c.every-chains.ensures sound_chain (λ row b met. search rules),
      c.every-steps.ensures sound_step (λ row b met. search rules),
      c.cut.ensures,
      c.cut-2.ensures,
      c.cut-3.ensures,
      c.cut-4.ensures,
    )
