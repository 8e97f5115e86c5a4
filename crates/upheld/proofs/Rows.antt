-- Rows that are cut from a table of words, and texts that are cut from the lent one.
use Prim.Native.Nat.{ℕ, zero, suc, ◌+◌, ◌%◌, ◌^◌, ◌≤◌, ◌<◌}
use mathlib.Core.Bool.{true}
use mathlib.Core.Path.{◌≡◌, refl, ap}
use mathlib.Core.List.{List, [], ◌∷◌, map}
use native.Mathlib.Nat.{mod-eq_of_lt}
use native.Mathlib.Omega.{arith}
use borrow.Author.Tests.{leb-true, ltb-true}
use lib.ListN.{length, get_or, take, drop, length-take, length-drop}
use Rattle.grammar.specs.declared.Span.{Span}
use Rattle.grammar.specs.Combinators.{Each}
use Rattle.rows.specs.Back.{end_of, cut}
use Rattle.written.specs.WellFormed.{WellString}
use Rattle.model.specs.Lent.{clip}
use Rattle.model.specs.Rules.{lies, is_text, sound_word}
use Rattle.upheld.specs.Native.{Slice}

-- ── words ──

abbrev pub Words : List ℕ → Type 0
Words t = (i : ℕ) → get_or t i 0 < 2 ^ 64

words_take : (n : ℕ) (t : List ℕ) → Words t → Words (take n t)
words_take zero t h i = omega arith
words_take (suc n) [] h i = omega arith
words_take (suc n) (x ∷ xs) h zero = h 0
words_take (suc n) (x ∷ xs) h (suc i) = words_take n xs (λ j. h (suc j)) i

words-drop : (n : ℕ) (t : List ℕ) → Words t → Words (drop n t)
words-drop zero t h i = h i
words-drop (suc n) [] h i = omega arith
words-drop (suc n) (x ∷ xs) h i = words-drop n xs (λ j. h (suc j)) i

pub words-cut : (w n : ℕ) (t : List ℕ) → Words t → Each Words (cut w n t)
words-cut w zero t h = tt
words-cut w (suc n) t h = (words_take w t h, words-cut w n (drop w t) (words-drop w t h))

-- ── counts ──

pub length_cut : (w n : ℕ) (t : List ℕ) → length (cut w n t) ≡ n
length_cut w zero t = refl
length_cut w (suc n) t = ap suc (length_cut w n (drop w t))

-- they are few, and their table has the places
pub record Held (used places : ℕ) : Type 0 where
  pub few : used < 2 ^ 64
  pub room : used ≤ places

pub held : {used places : ℕ} {t : List ℕ} → used ≤ length t → Slice t → used ≤ places → Held used places
held there slice room = record { few = omega (arith, slice.few); room = room }

-- ── ends ──

-- an end that fits stands in its word
pub ends-back : (n : ℕ) (t : List ℕ) → n ≤ length t → Each (λ row. sound_word row ≡ true) (cut 1 n t) → map end_of (cut 1 n t) ≡ take n t
ends-back zero t h ok = refl
ends-back (suc n) [] h ok = absurd (omega arith)
ends-back (suc n) (x ∷ xs) h ok =
    let small : x < 2 ^ 32 = ltb-true _ _ ok.0 in
    let same : x % 2 ^ 32 ≡ x = mod-eq_of_lt small in
    rw (same, ends-back n xs (omega arith) ok.1)

-- ── texts ──

module _ (text : List ℕ) (span : Span) where
  pub clip-few : length (clip text span) ≤ length text
  clip-few = simp (length-take, length-drop) (omega arith)

  pub clip-length : lies text span ≡ true → length (clip text span) ≡ span.size
  clip-length there = let inside : span.start + span.size ≤ length text = leb-true _ _ there in simp (length-take, length-drop) (omega arith)

  pub clip-string : length text < 2 ^ 64 → is_text text span ≡ true → WellString (clip text span)
  clip-string few utf8 = record { counted = omega (arith, clip-few); utf8 = utf8 }
