-- Each table by the test that its rows are given.
use Rattle.std.proofs.Common.{rules}
use Rattle.model.specs.Rules.{known_constant, known_chain, known_step, known_function}
use Rattle.rules.proofs.whole.known.Goals as goal

pub returns : goal.returns
returns c =
    rw (
      c.every-constants.ensures known_constant (λ row b met. search rules),
      c.every-chains.ensures known_chain (λ row b met. search rules),
      c.every-steps.ensures (known_step c.args.mask) (λ row b met. search rules),
      c.every-functions.ensures known_function (λ row b met. search rules),
      c.cut.ensures,
      c.cut-2.ensures,
      c.cut-3.ensures,
      c.cut-4.ensures,
    )
