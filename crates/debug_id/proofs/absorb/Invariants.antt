-- Mixing what is left into the id so far is mixing all into the first.
use Rattle.std.proofs.Common.{◌≡◌, ◌*◌, drop}
use Rattle.debug_id.specs.DebugId.{mixed_all, number_of}
use Rattle.debug_id.proofs.absorb.Given as goal

abbrev pub invariant-loop-pair : goal.invariant-loop-pair
invariant-loop-pair l = mixed_all (number_of l.fn.id) l.bytes ≡ mixed_all (number_of l.d) (drop (l.pair-index * 2) l.bytes)
