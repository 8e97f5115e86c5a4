-- Runs of ASCII: what is or-ed together covers each of its bytes, and a run that is covered below 128 has no say.
-- Runs are joined end to end, and go byte by byte. Assumes nothing.
use mathlib.Core.Path.{◌≡◌, refl, ◌∙◌, ap, sym}
use mathlib.Core.Bool.{true}
use mathlib.Core.List.{List}
use Prim.Native.Nat.{ℕ, zero, suc, ◌+◌, ◌-◌, ◌≤◌, ◌<◌}
use native.Mathlib.Numerals.{add-one}
use native.Mathlib.Decide.{dec_lt}
use native.Mathlib.Nat.{add-zero, not-suc-le-zero}
use native.Mathlib.Omega.{arith}
use lib.Bits.{bit_or, or_add_and, and_le_l, and_le_r}
use lib.ListN.{length, get_or, drop, drop_of_length-le}
use lib.Seq.{drop-cons}
use Rattle.utf8.specs.Check.{is_utf8}
use Rattle.utf8.specs.Machine.{Covers, Passed}
use Rattle.utf8.proofs.Laws.{nothing-is-text, ascii-text}

pub or_left : (a b : ℕ) → a ≤ bit_or a b
or_left a b = omega (arith, or_add_and a b, and_le_r a b)

pub or_right : (a b : ℕ) → b ≤ bit_or a b
or_right a b = omega (arith, or_add_and a b, and_le_l a b)

pub covers-join : (s : List ℕ) (at m n a b : ℕ) → Covers s at m a → Covers s (at + m) n b → Covers s at (m + n) (bit_or a b)
covers-join s at m n a b h k =
    record {
      each = λ i l.
          elim (dec_lt i m) [
            | yes low ↦ let front : get_or s (at + i) 0 ≤ a = h.each i low in omega (arith, or_left a b)
            | no high ↦
                let place : at + m + (i - m) ≡ at + i = omega arith in
                let back : get_or s (at + i) 0 ≤ b = rw place at (k.each (i - m) (omega arith)) in
                omega (arith, or_right a b)
          ];
    }

pub covers-none : (s : List ℕ) (at r : ℕ) → Covers s at 0 r
covers-none s at r = record { each = λ k l. absurd (not-suc-le-zero l) }

pub covers_one : (s : List ℕ) (at : ℕ) → Covers s at 1 (get_or s at 0)
covers_one s at =
    record { each = λ k l. let e : at + k ≡ at = omega arith in rw e (omega arith) }

pub covers_more : (s : List ℕ) (at n a : ℕ) → Covers s at n a → Covers s at (n + 1) (bit_or a (get_or s (at + n) 0))
covers_more s at n a h = covers-join s at n 1 a (get_or s (at + n) 0) h (covers_one s (at + n))

pub passed_here : (s : List ℕ) (at : ℕ) → at ≤ length s → Passed s at at
passed_here s at h = record { up = omega arith; inside = h; same = refl }

pub passed_then : (s : List ℕ) (from mid at : ℕ) → Passed s from mid → Passed s mid at → Passed s from at
passed_then s from mid at p q = record { up = omega arith; inside = q.inside; same = p.same ∙ q.same }

pub byte-passed : (s : List ℕ) (at : ℕ) → at < length s → get_or s at 0 < 128 → Passed s at (at + 1)
byte-passed s at h k =
    record { up = omega arith; inside = omega arith; same = rw (add-one, drop-cons s at 0 h) (ascii-text (get_or s at 0) (drop (suc at) s) k) }

pub block-passed : (s : List ℕ) (n at r : ℕ) → at + n ≤ length s → Covers s at n r → r < 128 → Passed s at (at + n)
block-passed s zero at r h k l = rw add-zero (passed_here s at (omega arith))
block-passed s (suc n) at r h k l =
    let head : get_or s at 0 ≤ r = rw add-zero at (k.each 0 (omega arith)) in
    let tail : Covers s (at + 1) n r =
    record {
      each = λ j below. let place : at + suc j ≡ at + 1 + j = omega arith in rw place at (k.each (suc j) (omega arith));
    } in
    let end : at + 1 + n ≡ at + suc n = omega arith in
    rw end at
    (passed_then s at (at + 1) (at + 1 + n) (byte-passed s at (omega arith) (omega arith)) (block-passed s n (at + 1) r (omega arith) tail l))

pub all-passed : (s : List ℕ) (at : ℕ) → Passed s 0 at → length s ≤ at → true ≡ is_utf8 s
all-passed s at p h = sym (p.same ∙ ap is_utf8 (drop_of_length-le s h) ∙ nothing-is-text)
