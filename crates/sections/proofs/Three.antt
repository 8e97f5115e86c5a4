-- An index of three bytes.
use Prim.Native.Nat.{ℕ, ◌+◌, ◌-◌, ◌*◌, ◌^◌, ◌≤◌, ◌<◌}
use mathlib.Core.Path.{◌≡◌, sym, ap}
use mathlib.Core.List.{List}
use native.Mathlib.Nat.{add-zero}
use native.Mathlib.Omega.{arith}
use lib.ListN.{length, get_or}
use borrow.Author.Tests.{lt-ltb}
use Rattle.grammar.specs.declared.Cursor.{Cursor}
use Rattle.grammar.specs.Outcome.{advanced, got}
use Rattle.grammar.specs.Number.{number, index}
use Rattle.grammar.proofs.Number.{number-narrow}
use Rattle.varint.proofs.Groups.{holding-none, holding-last, holding-more}

module _ (s : List ℕ) (c : Cursor) where
  byte_at : ℕ → ℕ
  byte_at k = get_or s (c.at + k) 0

  fits-index : (v u : ℕ) → number 64 s c ≡ got v (advanced c 3) → v ≡ u → u < 2 ^ 32 → index s c ≡ got u (advanced c 3)
  fits-index v u e same h = rw (number-narrow 32 (omega arith) s c, e, same, lt-ltb u (2 ^ 32) h)

  pub index-three : c.at + 2 < length s → 128 ≤ get_or s c.at 0 → get_or s c.at 0 < 256 → 128 ≤ get_or s (c.at + 1) 0 → get_or s (c.at + 1) 0 < 256 →
      get_or s (c.at + 2) 0 < 128 →
      index s c ≡ got (get_or s c.at 0 - 128 + (get_or s (c.at + 1) 0 - 128) * 128 + get_or s (c.at + 2) 0 * 16384) (advanced c 3)
  index-three h more byte again wide last =
      fits-index _ (get_or s c.at 0 - 128 + (get_or s (c.at + 1) 0 - 128) * 128 + get_or s (c.at + 2) 0 * 16384)
      (holding-last
      (holding-more (holding-more (holding-none s c (omega arith)) (omega arith) (omega arith) (rw start-at at more)) (omega arith) (omega arith) again)
      (omega arith) h last)
      (omega (arith, start-at)) (omega arith)
    where
      start-at : get_or s c.at 0 ≡ get_or s (c.at + 0) 0
      start-at = ap (λ (n : ℕ). get_or s n 0) (sym (add-zero c.at))
