-- A part of a text, sixteen bytes at once or one after the other.
use Prim.Native.Nat.{ℕ, zero, suc, ◌+◌, ◌-◌, ◌≤◌, ◌<◌, min}
use mathlib.Core.Path.{◌≡◌, refl, sym, ◌∙◌, ap}
use mathlib.Core.List.{List, [], ◌∷◌, ◌++◌}
use native.Mathlib.Nat.{add-zero}
use native.Mathlib.Omega.{arith}
use lib.ListN.{length, get_or, set, take, drop, length-take, length-drop, length-set, drop_of_length-le}
use lib.Seq.{sets, get_or-take, get_or-drop, drop-drop}
use Rattle.grammar.specs.declared.Span.{Span}
use Rattle.grammar.specs.Number.{shortest}
use Rattle.tables.proofs.Stores.{sets-next}
use Rattle.written.specs.Put.{put_bytes}
use Rattle.model.specs.Lent.{clip}
use Rattle.emit.specs.Puts.{Puts}
use borrow.Rule.Slice.PartMut.{put_mid}
use Rattle.std.proofs.Common.{take-add}
use Rattle.emit.proofs.Laws.{puts-part, puts-stored, puts_then}

abbrev pub part : List ℕ → ℕ → ℕ → List ℕ
part text from n = take n (drop from text)

pub part_length : (text : List ℕ) (from n : ℕ) → n ≤ length text - from → length (part text from n) ≡ n
part_length text from n h = simp (length-take, length-drop) (omega arith)

-- of sixteen bytes that are stored the first n count
pub sixteen-puts : (text : List ℕ) (from n : ℕ) {e bytes : List ℕ} {at k : ℕ} → n ≤ 16 → bytes ≡ part text from 16 → k ≡ 16 → at + 16 ≤ length e → from + 16 ≤ length text →
    Puts (part text from n) e at (put_mid at k e bytes) (at + n)
sixteen-puts text from n few is sixteen room there =
    let rest : n + (16 - n) ≡ 16 = omega arith in
    let all : part text from 16 ≡ part text from n ++ part text (from + n) (16 - n) =
    rw rest at (take-add n (16 - n) (drop from text)) ∙ ap (λ (l : List ℕ). part text from n ++ take (16 - n) l) (drop-drop n from text) in
    puts-part (part text from n) (part text (from + n) (16 - n)) (is ∙ all) (ap length is ∙ part_length text from 16 (omega arith) ∙ sym sixteen) (omega arith)
    (rw (part_length text from n (omega arith)))

-- ── one byte after the other ──

-- i bytes are copied
pub record Copying (text : List ℕ) (from n : ℕ) (e : List ℕ) (at : ℕ) (out : List ℕ) (i : ℕ) : Type 0 where
  pub there : n ≤ length text - from
  pub few : i ≤ n
  pub same : length out ≡ length e
  pub onward : sets e at (part text from n) ≡ sets out (at + i) (drop i (part text from n))

pub copying-none : {text : List ℕ} {from n : ℕ} {e : List ℕ} {at : ℕ} → n ≤ length text - from → Copying text from n e at e 0
copying-none {at = at} h = record { there = h; few = omega arith; same = refl; onward = rw (add-zero at) }

module _ {text : List ℕ} {from n : ℕ} {e : List ℕ} {at : ℕ} {out : List ℕ} {i : ℕ} (g : Copying text from n e at out i) where
  pub copying-more : i < n → Copying text from n e at (set out (at + i) (get_or text (from + i) 0)) (i + 1)
  copying-more h =
      let inside : i < length (part text from n) = rw (part_length text from n g.there) h in
      let this : get_or (part text from n) i 0 ≡ get_or text (from + i) 0 = rw (get_or-take, get_or-drop) in
      record {
        there = g.there;
        few = omega arith;
        same = length-set out (at + i) (get_or text (from + i) 0) ∙ g.same;
        onward = g.onward ∙ (rw this at (sets-next out at i (part text from n) inside));
      }

  pub copying-all : n ≤ i → Puts (part text from n) e at out (at + n)
  copying-all h =
      let many = part_length text from n g.there in
      let none : length (part text from n) ≤ i = rw many h in
      puts-stored (sym (g.onward ∙ ap (sets out (at + i)) (drop_of_length-le (part text from n) none))) (rw many)
