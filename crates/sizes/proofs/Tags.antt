-- The sizes of constants by their tag.
use Prim.Native.Nat.{ℕ, ◌+◌, ◌<◌, min}
use mathlib.Core.Bool.{Bool, true, false}
use mathlib.Core.Path.{◌≡◌, refl, ◌∙◌}
use mathlib.Core.List.{List, ◌++◌}
use native.Mathlib.Omega.{arith}
use lib.ListN.{length, length-append}
use Rattle.rows.specs.Back.{word, text_of, constant_of}
use Rattle.written.specs.Put.{put_bytes}
use Rattle.model.specs.Lent.{clip}
use Rattle.emit.specs.Constants.{head_bytes, foot_bytes}
use Rattle.emit.proofs.Tags.{tagged, by-tag, isnt, is_pointer_lem, pointer-tag}
use Rattle.sizes.specs.Counts.{Counts}
use Rattle.sizes.specs.Items.{has_text, where_used, words_of}

module _ (row text : List ℕ) where
  abbrev text_of_row : ℕ
  text_of_row = length (put_bytes (clip text (text_of row)))

  abbrev Sized : ℕ → Type 0
  Sized n = words_of n row + where_used (has_text n) text_of_row ≡ length (head_bytes text (tagged n row) ++ foot_bytes (tagged n row))

  pointer-sized : (n : ℕ) → 11 < n → Sized n
  pointer-sized n past =
      rw (
        is_pointer_lem n past row,
        pointer-tag n past,
        isnt n past 3 (omega arith),
        isnt n past 4 (omega arith),
        isnt n past 5 (omega arith),
        isnt n past 10 (omega arith),
        isnt n past 11 (omega arith),
      )
      (simp length-append (omega arith))

  pub sized-by : (n : ℕ) → Sized n
  sized-by =
      by-tag Sized refl refl refl (simp length-append (omega arith)) refl (simp length-append (omega arith)) (simp length-append (omega arith)) (simp length-append (omega arith)) (simp length-append (omega arith))
      (simp length-append (omega arith)) (simp length-append (omega arith)) (simp length-append (omega arith)) pointer-sized

-- ── what the code asks ──

-- a text is capped where it is counted from the front
capped : (told : Bool) (w long at : ℕ) {n size : ℕ} → n ≡ min (0 + long) 1048577 → size ≡ where_used told n →
    min (at + (w + size)) 1048577 ≡ min (at + (w + where_used told long)) 1048577
capped true w long at is size = omega arith
capped false w long at is size = omega arith

pub constant-counts : (row text : List ℕ) {told : Bool} {words n size at next : ℕ} → words ≡ words_of (word row 0) row → told ≡ has_text (word row 0) →
    Counts (put_bytes (clip text (text_of row))) 0 n → size ≡ where_used told n → next ≡ min (at + (words + size)) 1048577 →
    Counts (head_bytes text (constant_of row) ++ foot_bytes (constant_of row)) at next
constant-counts row text {told} {words} {n} {size} {at} {next} w is p s e =
    let all : words_of (word row 0) row + where_used told (length (put_bytes (clip text (text_of row)))) ≡ length (head_bytes text (constant_of row) ++ foot_bytes (constant_of row)) =
    rw is (sized-by row text (word row 0)) in
    let near : min (at + (words + size)) 1048577 ≡ min (at + (words + where_used told (length (put_bytes (clip text (text_of row)))))) 1048577 = capped told words (length (put_bytes (clip text (text_of row)))) at p.next s in
    record { next = e ∙ (near ∙ rw (w, all)) }
