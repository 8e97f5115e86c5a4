-- Numbers of one, two and three bytes, and the entries made of them, are read as the definitions read them.
use Rattle.std.proofs.Common.{◌≡◌, ℕ, ◌+◌, ◌-◌, ◌*◌, ◌^◌, ◌<◌, ◌≤◌, Bool, true, false, ltb, List, length, get_or, sym, refl, ap, add-zero, add_assoc, arith, ltb-false, ltb-true, lt-ltb}
use lib.Bits.{bit_and, bit_or, or_add_and, and_le_l, and_le_r, or_lt}
use Rattle.grammar.specs.declared.Cursor.{Cursor}
use Rattle.grammar.specs.Outcome.{advanced, got, pure, ◌>>=◌}
use Rattle.grammar.specs.Number.{number}
use Rattle.grammar.proofs.Number.{number-narrow}
use Rattle.varint.proofs.Groups.{holding-none, holding-last, holding-more}
use Rattle.position_table.specs.Table.{field}
use Rattle.pos.specs.Steps.{placed}
use Rattle.pos.specs.Skim.{Whole, Entry}

-- what two bytes or'ed together are below, both are
pub low-left : (a b : ℕ) → a ≤ bit_or a b
low-left a b = omega (arith, or_add_and a b, and_le_r a b)

pub low-right : (a b : ℕ) → b ≤ bit_or a b
low-right a b = omega (arith, or_add_and a b, and_le_l a b)

-- a number of 64 bits that fits 32 is a field
field_of : (s : List ℕ) (c : Cursor) (v u n : ℕ) → number 64 s c ≡ got v (advanced c n) → v ≡ u → u < 2 ^ 32 → field s c ≡ got u (advanced c n)
unfolding field
field_of s c v u n e same h = rw (number-narrow 32 (omega arith) s c, e, same, lt-ltb u (2 ^ 32) h)

module _ (s : List ℕ) (c : Cursor) where
  abbrev byte_at : ℕ → ℕ
  byte_at k = get_or s (c.at + k) 0

  module _ (h : c.at < length s) where
    start-at : get_or s c.at 0 ≡ byte_at 0
    start-at = ap (λ (n : ℕ). get_or s n 0) (sym (add-zero c.at))

    pub field-one : get_or s c.at 0 < 128 → field s c ≡ got (get_or s c.at 0) (advanced c 1)
    field-one low =
        field_of s c _ (get_or s c.at 0) 1
        (holding-last (holding-none s c h) (omega arith) (omega arith) (rw start-at at low))
        (omega (arith, start-at)) (omega arith)

  pub field-two : c.at + 1 < length s → 128 ≤ get_or s c.at 0 → get_or s c.at 0 < 256 → byte_at 1 < 128 →
      field s c ≡ got (get_or s c.at 0 - 128 + byte_at 1 * 128) (advanced c 2)
  field-two h more byte last =
      field_of s c _ (get_or s c.at 0 - 128 + byte_at 1 * 128) 2
      (holding-last (holding-more (holding-none s c (omega arith)) (omega arith) (omega arith) (rw (start-at (omega arith)) at more)) (omega arith) h last)
      (omega (arith, start-at (omega arith))) (omega arith)

  pub field-three : c.at + 2 < length s → 128 ≤ get_or s c.at 0 → get_or s c.at 0 < 256 → 128 ≤ byte_at 1 → byte_at 1 < 256 → byte_at 2 < 128 →
      field s c ≡ got (get_or s c.at 0 - 128 + (byte_at 1 - 128) * 128 + byte_at 2 * 16384) (advanced c 3)
  field-three h more byte again wide last =
      field_of s c _ (get_or s c.at 0 - 128 + (byte_at 1 - 128) * 128 + byte_at 2 * 16384) 3
      (holding-last
      (holding-more (holding-more (holding-none s c (omega arith)) (omega arith) (omega arith) (rw (start-at (omega arith)) at more)) (omega arith) (omega arith) again)
      (omega arith) h last)
      (omega (arith, start-at (omega arith))) (omega arith)

-- three numbers, one behind the other, are an entry
pub three-is : (s : List ℕ) (c : Cursor) (step line column a b d : ℕ) →
    field s c ≡ got step (advanced c a) → field s (advanced c a) ≡ got line (advanced (advanced c a) b) →
    field s (advanced (advanced c a) b) ≡ got column (advanced (advanced (advanced c a) b) d) → Whole s c step line column (a + b + d)
unfolding placed ◌>>=◌ pure
three-is s c step line column a b d e₁ e₂ e₃ =
    record {
      width = a;
      first = e₁;
      rest = λ to. rw (e₂, e₃, add_assoc c.at a b, add_assoc c.at (a + b) d);
    }

-- three bytes or'ed together are below 128, so each is
module _ (a b d : ℕ) (h : bit_or (bit_or a b) d < 128) where
  pub low-one : a < 128
  low-one = omega (arith, low-left a b, low-left (bit_or a b) d)

  pub low-two : b < 128
  low-two = omega (arith, low-right a b, low-left (bit_or a b) d)

  pub low-three : d < 128
  low-three = omega (arith, low-right (bit_or a b) d)

-- of three bytes that are not all below 128 the middle one is not, where the others are
mid-above : (a b d : ℕ) → 128 ≤ bit_or (bit_or a b) d → a < 128 → d < 128 → 128 ≤ b
mid-above a b d h ha hd = go (ltb b 128) refl
  where
    go : (t : Bool) → ltb b 128 ≡ t → 128 ≤ b
    go true e = absurd (omega (arith, or_lt 7 (bit_or a b) d (or_lt 7 a b ha (ltb-true b 128 e)) hd))
    go false e = ltb-false b 128 e

told : {s : List ℕ} {c : Cursor} {step line column size : ℕ} → Whole s c step line column size → Entry s c step size
told {line = line} {column} w = record { line = line; column = column; whole = w }

-- an entry of single bytes, and one whose line has two, or three
module _ (s : List ℕ) (c : Cursor) where
  abbrev byte : ℕ → ℕ
  byte k = get_or s (c.at + k) 0

  pub whole-three : c.at + 2 < length s → bit_or (bit_or (get_or s c.at 0) (byte 1)) (byte 2) < 128 →
      Whole s c (get_or s c.at 0) (byte 1) (byte 2) 3
  whole-three h low =
      (three-is s c (get_or s c.at 0) (byte 1) (byte 2) 1 1 1
      (field-one s c (omega arith) (low-one (get_or s c.at 0) (byte 1) (byte 2) low))
      (field-one s (advanced c 1) (omega arith) (low-two (get_or s c.at 0) (byte 1) (byte 2) low))
      (rw (add_assoc c.at 1 1) (field-one s (advanced c 2) (omega arith) (low-three (get_or s c.at 0) (byte 1) (byte 2) low))))

  pub plain-three : c.at + 2 < length s → bit_or (bit_or (get_or s c.at 0) (byte 1)) (byte 2) < 128 → Entry s c (get_or s c.at 0) 3
  plain-three h low = told (whole-three h low)

  pub plain-four : c.at + 3 < length s → 128 ≤ bit_or (bit_or (get_or s c.at 0) (byte 1)) (byte 2) → byte 1 < 256 →
      bit_or (bit_or (get_or s c.at 0) (byte 2)) (byte 3) < 128 → Entry s c (get_or s c.at 0) 4
  plain-four h high wide low =
      told
      (three-is s c (get_or s c.at 0) (byte 1 - 128 + byte 2 * 128) (byte 3) 1 2 1
      (field-one s c (omega arith) (low-one (get_or s c.at 0) (byte 2) (byte 3) low))
      (rw same at (field-two s (advanced c 1) (omega arith) (mid-above (get_or s c.at 0) (byte 1) (byte 2) high (low-one (get_or s c.at 0) (byte 2) (byte 3) low) (low-two (get_or s c.at 0) (byte 2) (byte 3) low)) wide (rw same (low-two (get_or s c.at 0) (byte 2) (byte 3) low))))
      (rw (add_assoc c.at 1 2) (field-one s (advanced c 3) (omega arith) (low-three (get_or s c.at 0) (byte 2) (byte 3) low))))
    where
      same : get_or s (c.at + 1 + 1) 0 ≡ byte 2
      same = ap (λ (n : ℕ). get_or s n 0) (add_assoc c.at 1 1)

  pub plain-five : c.at + 4 < length s → bit_or (bit_or (get_or s c.at 0) (byte 3)) (byte 4) < 128 → 128 ≤ bit_and (byte 1) (byte 2) →
      byte 1 < 256 → byte 2 < 256 → Entry s c (get_or s c.at 0) 5
  plain-five h low high wide₁ wide₂ =
      told
      (three-is s c (get_or s c.at 0) (byte 1 - 128 + (byte 2 - 128) * 128 + byte 3 * 16384) (byte 4) 1 3 1
      (field-one s c (omega arith) (low-one (get_or s c.at 0) (byte 3) (byte 4) low))
      (rw (behind 1, behind 2) at
      (field-three s (advanced c 1) (omega arith) (omega (arith, and_le_l (byte 1) (byte 2), high)) wide₁
      (rw (behind 1) (omega (arith, and_le_r (byte 1) (byte 2), high))) (rw (behind 1) wide₂) (rw (behind 2) (low-two (get_or s c.at 0) (byte 3) (byte 4) low))))
      (rw (add_assoc c.at 1 3) (field-one s (advanced c 4) (omega arith) (low-three (get_or s c.at 0) (byte 3) (byte 4) low))))
    where
      behind : (k : ℕ) → get_or s (c.at + 1 + k) 0 ≡ get_or s (c.at + (1 + k)) 0
      behind k = ap (λ (n : ℕ). get_or s n 0) (add_assoc c.at 1 k)
