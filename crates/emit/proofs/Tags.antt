-- Constants by their tag: what a row's words say of its constant, tag by tag.
use Rattle.std.proofs.Common.{if◌then◌else◌}
use Prim.Native.Nat.{ℕ, zero, suc, ◌≤◌, ◌<◌}
use mathlib.Core.Bool.{Bool, true, false}
use mathlib.Core.Path.{◌≡◌, refl}
use mathlib.Core.List.{List, []}
use native.Mathlib.Omega.{arith}
use borrow.Author.Tests.{ne_eqb, lt-ltb}
use lib.Dec.{eqb}
use Rattle.rows.specs.declared.constants.Constant.{Constant}
use Rattle.rows.specs.Back.{word, index, signed, text_of, pointer_of, kind_of, constant_of}
use Rattle.rows.specs.Tree.{items_of, kind}
use Rattle.written.specs.Put.{put_kind}
use Rattle.emit.specs.Constants.{foot_bytes, keys_of}
use Rattle.emit.specs.Tags.{is_pointer, is_list}

-- the constant of a row, by a tag: `constant_of` for the row's own
abbrev compound : ℕ → List ℕ → Constant
compound tag row =
    if eqb tag 0x07 then Constant.Array (word row 5)
    else (if eqb tag 0x08 then Constant.Map (word row 5)
    else (if eqb tag 0x09 then Constant.Blob (text_of row)
    else (if eqb tag 0x0A then Constant.Range (signed (word row 1)) (signed (word row 2))
    else (if eqb tag 0x0B then Constant.RangeInclusive (signed (word row 1)) (signed (word row 2))
    else pointer_of row))))

abbrev pub tagged : ℕ → List ℕ → Constant
tagged tag row =
    if eqb tag 0x00 then Constant.Unit
    else (if eqb tag 0x01 then Constant.Boolean false
    else (if eqb tag 0x02 then Constant.Boolean true
    else (if eqb tag 0x03 then Constant.Int (signed (word row 1))
    else (if eqb tag 0x04 then Constant.Float (word row 1)
    else (if eqb tag 0x05 then Constant.Char (index (word row 1))
    else (if eqb tag 0x06 then Constant.Str (text_of row)
    else compound tag row))))))

-- a tag up to 0B, one by one, and those behind
pub by-tag : (P : ℕ → Type 0) → P 0 → P 1 → P 2 → P 3 → P 4 → P 5 → P 6 → P 7 → P 8 → P 9 → P 10 → P 11 → ((n : ℕ) → 11 < n → P n) → (n : ℕ) → P n
by-tag P a b c d e f g h i j k l m zero = a
by-tag P a b c d e f g h i j k l m (suc zero) = b
by-tag P a b c d e f g h i j k l m (suc (suc zero)) = c
by-tag P a b c d e f g h i j k l m (suc (suc (suc zero))) = d
by-tag P a b c d e f g h i j k l m (suc (suc (suc (suc zero)))) = e
by-tag P a b c d e f g h i j k l m (suc (suc (suc (suc (suc zero))))) = f
by-tag P a b c d e f g h i j k l m (suc (suc (suc (suc (suc (suc zero)))))) = g
by-tag P a b c d e f g h i j k l m (suc (suc (suc (suc (suc (suc (suc zero))))))) = h
by-tag P a b c d e f g h i j k l m (suc (suc (suc (suc (suc (suc (suc (suc zero)))))))) = i
by-tag P a b c d e f g h i j k l m (suc (suc (suc (suc (suc (suc (suc (suc (suc zero))))))))) = j
by-tag P a b c d e f g h i j k l m (suc (suc (suc (suc (suc (suc (suc (suc (suc (suc zero)))))))))) = k
by-tag P a b c d e f g h i j k l m (suc (suc (suc (suc (suc (suc (suc (suc (suc (suc (suc zero))))))))))) = l
by-tag P a b c d e f g h i j k l m (suc (suc (suc (suc (suc (suc (suc (suc (suc (suc (suc (suc n)))))))))))) =
    m (suc (suc (suc (suc (suc (suc (suc (suc (suc (suc (suc (suc n)))))))))))) (omega arith)

-- behind the others it is none of them
module _ (n : ℕ) (past : 11 < n) where
  pub isnt : (k : ℕ) → k ≤ 11 → eqb n k ≡ false
  isnt k h = ne_eqb n k (λ e. omega arith)

  pub is_pointer_lem : (row : List ℕ) → tagged n row ≡ pointer_of row
  is_pointer_lem row =
      rw (
        isnt 0 (omega arith),
        isnt 1 (omega arith),
        isnt 2 (omega arith),
        isnt 3 (omega arith),
        isnt 4 (omega arith),
        isnt 5 (omega arith),
        isnt 6 (omega arith),
        isnt 7 (omega arith),
        isnt 8 (omega arith),
        isnt 9 (omega arith),
        isnt 10 (omega arith),
        isnt 11 (omega arith),
      )

  pub pointer-tag : is_pointer n ≡ true
  pointer-tag = lt-ltb 11 n past
