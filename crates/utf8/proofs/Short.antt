-- Short text: blocks that reach its front and its end cover it, and text that is covered below 128 is UTF-8; a part that is cut where
-- the bytes end. Assumes nothing.
use mathlib.Core.Path.{◌≡◌, sym, ◌∙◌}
use mathlib.Core.Bool.{true}
use mathlib.Core.List.{List}
use Prim.Native.Nat.{ℕ, ◌+◌, ◌-◌, ◌≤◌, ◌<◌, ◌/◌, min}
use native.Mathlib.Decide.{dec_lt}
use native.Mathlib.Nat.{zero-add}
use native.Mathlib.Omega.{arith}
use lib.Bits.{bit_or, bit_and, and_shr}
use lib.ListN.{length, get_or, take, drop, length-take, length-drop, drop_of_length-le}
use lib.Seq.{get_or-take, get_or-drop, take_all, take-nil}
use lib.Dec.{ltb}
use borrow.Author.Tests.{ltb-true}
use Rattle.utf8.specs.Check.{is_utf8}
use Rattle.utf8.specs.Machine.{Covers, Screens, Sees}
use Rattle.utf8.proofs.Laws.{nothing-is-text}
use Rattle.utf8.proofs.Ascii.{or_left, or_right, block-passed, all-passed}

-- two bytes that have their highest bit have it in common
high_bits : (b m : ℕ) → b < 256 → 128 ≤ m → m < 256 → bit_and b m < 128 → b < 128
high_bits b m fits high low less =
    elim (dec_lt b 128) [
      | yes l ↦ l
      | no h ↦
          let first : b / 128 ≡ 1 = omega arith in
          let second : m / 128 ≡ 1 = omega arith in
          let common : bit_and b m / 128 ≡ bit_and (b / 128) (m / 128) = and_shr b m 7 in
          let one : bit_and b m / 128 ≡ 1 = rw (first, second) at common in
          absurd (omega (arith, one, less))
    ]

module _ (s : List ℕ) where
  -- the second block begins in the first, or right behind it
  pub covers-both : (at m mid n size a b : ℕ) → Covers s at m a → Covers s mid n b → at ≤ mid → mid ≤ at + m → at + size ≤ mid + n →
      Covers s at size (bit_or a b)
  covers-both at m mid n size a b h k low reach far =
      record {
        each = λ i l.
            elim (dec_lt i m) [
              | yes front ↦ let below : get_or s (at + i) 0 ≤ a = h.each i front in omega (arith, or_left a b)
              | no back ↦
                  let place : mid + (at + i - mid) ≡ at + i = omega arith in
                  let below : get_or s (at + i) 0 ≤ b = rw place at (k.each (at + i - mid) (omega arith)) in
                  omega (arith, or_right a b)
            ];
      }

  covered-text : (start size r : ℕ) → start + size ≤ length s → Covers s start size r → r < 128 → true ≡ is_utf8 (take size (drop start s))
  covered-text start size r inside h low =
      all-passed (take size (drop start s)) (0 + size) (block-passed (take size (drop start s)) size 0 r long covers low) (omega (arith, whole))
    where
      whole : length (take size (drop start s)) ≡ size
      whole = simp (length-take, length-drop) (omega arith)

      long : 0 + size ≤ length (take size (drop start s))
      long = omega (arith, whole)

      covers : Covers (take size (drop start s)) 0 size r
      covers = record { each = λ k l. rw (zero-add k, get_or-take size (drop start s) k 0 l, get_or-drop start s k 0) (h.each k l) }

  -- what blocks say, tested
  pub sees : (start size r : ℕ) → start + size ≤ length s → Covers s start size r → Sees (ltb r 128) s start size
  sees start size r inside h = record { text = λ e. sym (covered-text start size r inside h (ltb-true r 128 e)) }

  pub screens : (start size r : ℕ) → start + size ≤ length s → Screens s start size r → Sees (ltb r 128) s start size
  screens start size r inside h =
      record {
        text = λ e.
            let each = h.each (ltb-true r 128 e) in
            sym (covered-text start size 127 inside (record { each = λ k l. let below : get_or s (start + k) 0 < 128 = each k l in omega arith }) (omega arith));
      }

  pub screens-none : (at n r : ℕ) → Screens s at (min 0 n) r
  screens-none at n r = record { each = λ low k l. absurd (omega arith) }

  -- the next byte counts where the text has not ended
  pub screens-more : (at n k a m : ℕ) → (k < n → 128 ≤ m) → m < 256 → get_or s (at + k) 0 < 256 → Screens s at (min k n) a →
      Screens s at (min (k + 1) n) (bit_or a (bit_and (get_or s (at + k) 0) m))
  screens-more at n k a m high low fits h =
      let byte = get_or s (at + k) 0 in
      record {
        each = λ less i l.
            elim (dec_lt i (min k n)) [
              | yes before ↦ h.each (omega (arith, or_left a (bit_and byte m))) i before
              | no here ↦
                  let place : i ≡ k = omega arith in
                  rw place (high_bits byte m fits (high (omega arith)) low (omega (arith, or_right a (bit_and byte m))))
            ];
      }

  -- a run that starts past the end is empty, and one that ends past it ends there
  pub none-there : (start size : ℕ) → length s ≤ start → true ≡ is_utf8 (take size (drop start s))
  none-there start size h = sym (rw (drop_of_length-le s h, take-nil {A = ℕ} size) nothing-is-text)

  pub cut-there : (start size : ℕ) → length s - start ≤ size → take size (drop start s) ≡ take (length s - start) (drop start s)
  cut-there start size h =
      take_all size (drop start s) (simp length-drop h) ∙ sym (take_all (length s - start) (drop start s) (simp length-drop (omega arith)))

pub whole_run : (start size : ℕ) → start + size - start ≡ size
whole_run start size = omega arith

pub run-text : (s : List ℕ) (start size : ℕ) → is_utf8 (take (start + size - start) (drop start s)) ≡ is_utf8 (take size (drop start s))
run-text s start size = rw (whole_run start size)
