-- One step that brings two neighbouring fields of a word together, for any width: a field of s + m bits keeps m of them.
use Rattle.std.proofs.Common.{◌≡◌, ℕ, ◌+◌, ◌-◌, ◌*◌, ◌/◌, ◌%◌, ◌^◌, ◌<◌, List, [], ◌∷◌, sym, refl, ap, ◌∙◌, ap₂, lt_of_lt_of_le, mod-lt, mul_assoc, mul_comm, add-mul, arith, pow_pos, pow_mono, pow-add, shl_lt}
use native.Mathlib.Nat.{mul-add-mod_self_right}
use lib.Bits.{bit_and, bit_or, and_block, or_block, and_mask, and_high, or_shifted_r}
use lib.Arith.{digits_lt}
use lib.Pow.{shl-shr, high, high_ones, mod-mod-pow, ones_lt}

-- two fields, the low one first
pub record Pair : Type 0 where
  pub lo : ℕ
  pub hi : ℕ

module _ (m s : ℕ) where
  -- the bits of two fields
  abbrev pub both : ℕ
  both = (s + m) + (s + m)

  abbrev pub lanes : (Pair → ℕ) → List Pair → ℕ
  lanes f [] = 0
  lanes f (p ∷ ps) = lanes f ps * 2 ^ both + f p

  abbrev pub whole : Pair → ℕ
  whole p = p.hi % 2 ^ (s + m) * 2 ^ (s + m) + p.lo % 2 ^ (s + m)

  abbrev pub low : Pair → ℕ
  low p = p.lo % 2 ^ m

  abbrev pub upper : Pair → ℕ
  upper p = p.hi % 2 ^ m * 2 ^ m

  abbrev pub mask_low : Pair → ℕ
  mask_low p = 2 ^ m - 1

  abbrev pub mask-high : Pair → ℕ
  mask-high p = (2 ^ m - 1) * 2 ^ (s + m)

  abbrev pub near : Pair → ℕ
  near p = upper p + low p

  -- an operation works on each lane apart
  lane-wise : (op : ℕ → ℕ → ℕ) →
      ((k a b r q : ℕ) → r < 2 ^ k → q < 2 ^ k → op (a * 2 ^ k + r) (b * 2 ^ k + q) ≡ op a b * 2 ^ k + op r q) → op 0 0 ≡ 0 →
      (f g h : Pair → ℕ) → ((p : Pair) → f p < 2 ^ both) → ((p : Pair) → g p < 2 ^ both) → ((p : Pair) → op (f p) (g p) ≡ h p) →
      (ps : List Pair) → op (lanes f ps) (lanes g ps) ≡ lanes h ps
  lane-wise op block nil f g h fits fits' each [] = nil
  lane-wise op block nil f g h fits fits' each (p ∷ ps) =
      block both (lanes f ps) (lanes g ps) (f p) (g p) (fits p) (fits' p)
      ∙ ap₂ (λ (x y : ℕ). x * 2 ^ both + y) (lane-wise op block nil f g h fits fits' each ps) (each p)

  -- a lane's value shifted, and the whole shifted
  pub lanes-shifted : (f : Pair → ℕ) (ps : List Pair) → lanes (λ p. f p * 2 ^ s) ps ≡ lanes f ps * 2 ^ s
  lanes-shifted f [] = omega arith
  lanes-shifted f (p ∷ ps) =
      rw (lanes-shifted f ps)
      (regroup (lanes f ps) (2 ^ s) (2 ^ both) (f p))
    where
      regroup : (a t w b : ℕ) → a * t * w + b * t ≡ (a * w + b) * t
      regroup a t w b = rw (add-mul (a * w) b t, mul_assoc a t w, mul_assoc a w t, mul_comm t w)

  field_lt : (n : ℕ) → n % 2 ^ (s + m) < 2 ^ (s + m)
  field_lt n = mod-lt n (pow_pos (s + m))

  part-lt : (n : ℕ) → n % 2 ^ m < 2 ^ m
  part-lt n = mod-lt n (pow_pos m)

  whole-fits : (p : Pair) → whole p < 2 ^ both
  whole-fits p = rw (pow-add 2 (s + m) (s + m)) (digits_lt (field_lt p.hi) (field_lt p.lo))

  -- what the two masks leave of a lane
  low-left : (p : Pair) → bit_and (whole p) (2 ^ m - 1) ≡ low p
  low-left p =
      and_mask (whole p) m
      ∙ ap (λ (x : ℕ). (p.hi % 2 ^ (s + m) * x + p.lo % 2 ^ (s + m)) % 2 ^ m) (pow-add 2 s m)
      ∙ ap (λ (x : ℕ). (x + p.lo % 2 ^ (s + m)) % 2 ^ m) (sym (mul_assoc (p.hi % 2 ^ (s + m)) (2 ^ s) (2 ^ m)))
      ∙ mul-add-mod_self_right (p.hi % 2 ^ (s + m) * 2 ^ s) (2 ^ m) (p.lo % 2 ^ (s + m))
      ∙ mod-mod-pow p.lo s m

  high-left : (p : Pair) → bit_and (whole p) (mask-high p) ≡ upper p * 2 ^ s
  high-left p =
      ap (bit_and (whole p)) (sym (high_ones m (s + m)))
      ∙ and_high (whole p) m (s + m)
      ∙ ap (λ (x : ℕ). x % 2 ^ m * 2 ^ (s + m)) (high (p.hi % 2 ^ (s + m)) (s + m) (field_lt p.lo))
      ∙ ap (λ (x : ℕ). x * 2 ^ (s + m)) (mod-mod-pow p.hi s m)
      ∙ ap (λ (x : ℕ). p.hi % 2 ^ m * x) (pow-add 2 s m ∙ mul_comm (2 ^ s) (2 ^ m))
      ∙ sym (mul_assoc (p.hi % 2 ^ m) (2 ^ m) (2 ^ s))

  mask-low-fits : (p : Pair) → mask_low p < 2 ^ both
  mask-low-fits p = lt_of_lt_of_le (ones_lt m) (pow_mono {i = m} {j = both} (omega arith))

  mask-high-fits : (p : Pair) → mask-high p < 2 ^ both
  mask-high-fits p = lt_of_lt_of_le (shl_lt m (s + m) (ones_lt m)) (pow_mono {i = m + (s + m)} {j = both} (omega arith))

  low_fits : (p : Pair) → low p < 2 ^ both
  low_fits p = lt_of_lt_of_le (part-lt p.lo) (pow_mono {i = m} {j = both} (omega arith))

  upper_fits : (p : Pair) → upper p < 2 ^ both
  upper_fits p = lt_of_lt_of_le (shl_lt m m (part-lt p.hi)) (pow_mono {i = m + m} {j = both} (omega arith))

  -- the step: the low fields as they are, or-ed with the high ones shifted down to them
  pub squeeze-step : (ps : List Pair) →
      bit_or (bit_and (lanes whole ps) (lanes mask_low ps)) (bit_and (lanes whole ps) (lanes mask-high ps) / 2 ^ s) ≡ lanes near ps
  squeeze-step ps =
      let lows : bit_and (lanes whole ps) (lanes mask_low ps) ≡ lanes low ps =
      lane-wise bit_and and_block refl whole mask_low low whole-fits mask-low-fits low-left ps in
      let highs : bit_and (lanes whole ps) (lanes mask-high ps) ≡ lanes upper ps * 2 ^ s =
      lane-wise bit_and and_block refl whole mask-high (λ p. upper p * 2 ^ s) whole-fits mask-high-fits high-left ps ∙ lanes-shifted upper ps in
      let down : bit_and (lanes whole ps) (lanes mask-high ps) / 2 ^ s ≡ lanes upper ps =
      ap (λ (x : ℕ). x / 2 ^ s) highs ∙ shl-shr (lanes upper ps) s in
      ap₂ bit_or lows down
      ∙ lane-wise bit_or or_block refl low upper near low_fits upper_fits (λ p. or_shifted_r (p.hi % 2 ^ m) m (low p) (part-lt p.lo)) ps
