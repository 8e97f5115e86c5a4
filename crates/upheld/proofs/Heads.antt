-- The row of a constant, by its tag: the constant that it means, what its own words say, how many items it owns, and whether they have keys.
use Rattle.std.proofs.Common.{if◌then◌else◌}
use Prim.Native.Nat.{ℕ, zero, suc, ◌%◌, ◌^◌, ◌≤◌, ◌<◌}
use mathlib.Core.Bool.{Bool, true, false, not, ◌&&◌, ◌||◌}
use mathlib.Core.Path.{◌≡◌, refl}
use mathlib.Core.List.{List}
use native.Mathlib.Nat.{mod-eq_of_lt}
use native.Mathlib.Omega.{arith}
use borrow.Author.Tests.{leb-true, ltb-true, eqb-true}
use lib.Dec.{leb, ltb, eqb}
use lib.ListN.{length}
use mir.Syntax.{w64}
use mir.Val.{SFits}
use Rattle.format.specs.File.{scalar}
use Rattle.rows.specs.declared.constants.Kind.{Kind}
use Rattle.rows.specs.declared.constants.Constant.{Constant}
use Rattle.rows.specs.Back.{word, index, signed, text_of, kind_of, constant_of}
use Rattle.rows.specs.Tree.{items_of, kind}
use Rattle.rows.specs.Fits.{FitsBits}
use Rattle.written.specs.WellFormed.{Counted, WellString, WellKind}
use Rattle.model.specs.Lent.{clip}
use Rattle.model.specs.Rules.{tag, owns, named, span_at, is_text, known_constant}
use Rattle.emit.specs.Constants.{keys_of}
use Rattle.rules.proofs.Both.{both}
use Rattle.upheld.proofs.Rows.{Words, clip-few, clip-string}
use Rattle.upheld.proofs.Fitting.{signed_of}

-- what a constant's own words say: all but its items
abbrev pub WellHead : List ℕ → Constant → Type 0
WellHead text Constant.Unit = Unit
WellHead text (Constant.Boolean value) = Unit
WellHead text (Constant.Int n) = SFits w64 n
WellHead text (Constant.Float bits) = FitsBits 64 bits
WellHead text (Constant.Char code) = scalar code ≡ true
WellHead text (Constant.Str t) = WellString (clip text t)
WellHead text (Constant.Array items) = Unit
WellHead text (Constant.Map items) = Unit
WellHead text (Constant.Blob t) = Counted (clip text t)
WellHead text (Constant.Range from to) = SFits w64 from × SFits w64 to
WellHead text (Constant.RangeInclusive from to) = SFits w64 from × SFits w64 to
WellHead text (Constant.Pointer name items k) = WellString (clip text name) × WellKind (kind k)

pub record Sound (text row : List ℕ) : Type 0 where
  pub constant : Constant
  pub is : constant_of row ≡ constant
  pub owned : owns row ≡ items_of constant
  pub keys : eqb (tag row) 0x08 ≡ keys_of constant
  pub head : WellHead text constant

-- a tag up to 0B, one by one
tags : (P : ℕ → Type 0) → P 0 → P 1 → P 2 → P 3 → P 4 → P 5 → P 6 → P 7 → P 8 → P 9 → P 10 → P 11 → (n : ℕ) → n ≤ 11 → P n
tags P a b c d e f g h i j k l zero _ = a
tags P a b c d e f g h i j k l (suc zero) _ = b
tags P a b c d e f g h i j k l (suc (suc zero)) _ = c
tags P a b c d e f g h i j k l (suc (suc (suc zero))) _ = d
tags P a b c d e f g h i j k l (suc (suc (suc (suc zero)))) _ = e
tags P a b c d e f g h i j k l (suc (suc (suc (suc (suc zero))))) _ = f
tags P a b c d e f g h i j k l (suc (suc (suc (suc (suc (suc zero)))))) _ = g
tags P a b c d e f g h i j k l (suc (suc (suc (suc (suc (suc (suc zero))))))) _ = h
tags P a b c d e f g h i j k l (suc (suc (suc (suc (suc (suc (suc (suc zero)))))))) _ = i
tags P a b c d e f g h i j k l (suc (suc (suc (suc (suc (suc (suc (suc (suc zero))))))))) _ = j
tags P a b c d e f g h i j k l (suc (suc (suc (suc (suc (suc (suc (suc (suc (suc zero)))))))))) _ = k
tags P a b c d e f g h i j k l (suc (suc (suc (suc (suc (suc (suc (suc (suc (suc (suc zero))))))))))) _ = l
tags P a b c d e f g h i j k l (suc (suc (suc (suc (suc (suc (suc (suc (suc (suc (suc (suc n)))))))))))) few = absurd (omega arith)

-- a scalar has 32 bits
scalar-back : (code : ℕ) → scalar code ≡ true → scalar (index code) ≡ true
scalar-back code h = let back : code % 2 ^ 32 ≡ code = mod-eq_of_lt (below (ltb code 0xD800) refl h) in rw back h
  where
    below : (b : Bool) → ltb code 0xD800 ≡ b → b || (leb 0xE000 code && ltb code 0x110000) ≡ true → code < 2 ^ 32
    below true e h = let few : code < 0xD800 = ltb-true _ _ e in omega arith
    below false e h = let few : code < 0x110000 = ltb-true _ _ (both (leb 0xE000 code) (ltb code 0x110000) h).second in omega arith

module _ (text : List ℕ) (few : length text < 2 ^ 64) (row : List ℕ) (words : Words row) where
  -- a tag, with rule 3 of a string and of a pointer and rule 7 of a char
  record Tagged (n : ℕ) : Type 0 where
    is : word row 0 ≡ n
    utf8 : not (named n) || is_text text (span_at 3 row) ≡ true
    char : not (eqb n 0x05) || scalar (word row 1) ≡ true

  abbrev Is : ℕ → Type 0
  Is n = Tagged n → Sound text row

  float : FitsBits 64 (word row 1)
  float = record { below = words 1 }

  blob : Counted (clip text (text_of row))
  blob = omega (arith, clip-few text (text_of row))

  script : (t : ℕ) → WellKind (kind (kind_of t (word row 2)))
  script t = go (eqb t 0x81)
    where
      go : (b : Bool) → WellKind (kind (if b then Kind.Normal else Kind.Script (word row 2)))
      go true = tt
      go false = record { below = words 2 }

  made : (c : Constant) → constant_of row ≡ c → owns row ≡ items_of c → eqb (tag row) 0x08 ≡ keys_of c → WellHead text c → Sound text row
  made c is owned keys head = record { constant = c; is = is; owned = owned; keys = keys; head = head }

  listed : (n : ℕ) → n ≤ 11 → Is n
  listed =
      tags Is
      (λ h. made Constant.Unit (rw h.is) (rw h.is) (rw h.is) tt)
      (λ h. made (Constant.Boolean false) (rw h.is) (rw h.is) (rw h.is) tt)
      (λ h. made (Constant.Boolean true) (rw h.is) (rw h.is) (rw h.is) tt)
      (λ h. made (Constant.Int (signed (word row 1))) (rw h.is) (rw h.is) (rw h.is) (signed_of row words 1))
      (λ h. made (Constant.Float (word row 1)) (rw h.is) (rw h.is) (rw h.is) float)
      (λ h. made (Constant.Char (index (word row 1))) (rw h.is) (rw h.is) (rw h.is) (scalar-back (word row 1) h.char))
      (λ h. made (Constant.Str (text_of row)) (rw h.is) (rw h.is) (rw h.is) (clip-string text (text_of row) few h.utf8))
      (λ h. made (Constant.Array (word row 5)) (rw h.is) (rw h.is) (rw h.is) tt)
      (λ h. made (Constant.Map (word row 5)) (rw h.is) (rw h.is) (rw h.is) tt)
      (λ h. made (Constant.Blob (text_of row)) (rw h.is) (rw h.is) (rw h.is) blob)
      (λ h. made (Constant.Range (signed (word row 1)) (signed (word row 2))) (rw h.is) (rw h.is) (rw h.is) (signed_of row words 1, signed_of row words 2))
      (λ h. made (Constant.RangeInclusive (signed (word row 1)) (signed (word row 2))) (rw h.is) (rw h.is) (rw h.is) (signed_of row words 1, signed_of row words 2))

  pub sound-of : known_constant row ≡ true → not (named (tag row)) || is_text text (span_at 3 row) ≡ true →
      not (eqb (tag row) 0x05) || scalar (word row 1) ≡ true → Sound text row
  sound-of known utf8 char = go (leb (tag row) 0x0B) refl known
    where
      pointer : word row 0 ≡ 0x0D → Sound text row
      pointer e =
          made (Constant.Pointer (text_of row) (word row 5) (kind_of (word row 1) (word row 2))) (rw e) (rw e) (rw e)
          (clip-string text (text_of row) few (rw e at utf8), script (word row 1))

      go : (b : Bool) → leb (tag row) 0x0B ≡ b → b || (eqb (tag row) 0x0D && (eqb (word row 1) 0x81 || eqb (word row 1) 0x82)) ≡ true → Sound text row
      go true e h = listed (word row 0) (leb-true _ _ e) (record { is = refl; utf8 = utf8; char = char })
      go false e h = pointer (eqb-true _ _ (both (eqb (tag row) 0x0D) (eqb (word row 1) 0x81 || eqb (word row 1) 0x82) h).first)
