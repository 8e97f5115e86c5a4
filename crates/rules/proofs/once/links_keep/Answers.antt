-- Each table by the test that its rows are given.
use Rattle.std.proofs.Common.{rules, ◌&&◌}
use Rattle.model.specs.Rules.{known_chain, known_step, sound_chain, sound_step}
use Rattle.rules.proofs.once.links_keep.Goals as goal

pub returns : goal.returns
returns c =
    rw (
      c.every-chains.ensures (λ row. known_chain row && sound_chain row) (λ row b met. search rules),
      c.every-steps.ensures (λ row. known_step c.args.mask row && sound_step row) (λ row b met. search rules),
      c.cut.ensures,
      c.cut-2.ensures,
    )
