-- A pair more is mixed in.
use Rattle.std.proofs.Common.{◌/◌, length, sym, ap, ◌∙◌, ◌+◌, ◌*◌, drop, ℕ, arith}
use Rattle.debug_id.specs.DebugId.{mixed_all}
use Rattle.debug_id.proofs.Bytes.{next_pair}
use Rattle.debug_id.proofs.absorb.Goals as goal

pub loop-pair-preserved : goal.loop-pair-preserved
loop-pair-preserved c =
    let bytes = c.args.bytes.now in
    c.loop-pair.invariant ∙
    next_pair _ bytes (length bytes / 2) c.loop-pair.pair-index (omega arith) (omega (arith, c.as_chunks.ensures.front_len, c.loop-pair-test.true)) ∙
    ap (λ (n : ℕ). mixed_all n (drop ((c.loop-pair.pair-index + 1) * 2) bytes)) (sym (rw c.as_chunks.ensures.front at c.mix_two-d.ensures))
