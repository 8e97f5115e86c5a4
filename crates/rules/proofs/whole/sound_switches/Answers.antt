-- Each table by the test that its rows are given.
use Rattle.std.proofs.Common.{rules}
use Rattle.model.specs.Rules.{sound_switch, sound_case, sound_range}
use Rattle.rules.proofs.whole.sound_switches.Goals as goal

pub returns : goal.returns
returns c =
    rw (
      c.every-switches.ensures sound_switch (λ row b met. search rules),
      c.every-cases.ensures sound_case (λ row b met. search rules),
      c.every-ranges.ensures sound_range (λ row b met. search rules),
      c.cut.ensures,
      c.cut-2.ensures,
      c.cut-3.ensures,
    )
