-- `debug_id::debug_id` meets its contract: what the second `absorb` ensures, of the id that the first makes of the basis.
use Rattle.std.proofs.Common.{ℕ, ap, ◌∙◌}
use Rattle.debug_id.specs.DebugId.{mixed_all}
use Rattle.debug_id.proofs.debug_id.Goals as goal

pub returns : goal.returns
returns c =
    c.absorb-2.ensures
    ∙ ap (λ (n : ℕ). mixed_all n c.args.chains.now) c.absorb.ensures
