-- The payloads of a word's bytes side by side: how they are squeezed, and what they come to.
use Rattle.std.proofs.Common.{◌≡◌, ℕ, zero, suc, ◌+◌, ◌*◌, ◌/◌, ◌%◌, ◌^◌, ◌<◌, Bool, true, false, ltb, List, [], ◌∷◌, length, get_or, sym, refl, ap, ◌∙◌, add_assoc, mod-eq_of_lt, add_comm, arith, pow-add, shl_exact, ltb-true, if◌then◌else◌}
use lib.Bits.{bit_and, bit_or, or_shifted_r}
use Rattle.varint.specs.Word.{word, bytes_at, payloads, Bytes, none, more}
use Rattle.varint.proofs.Word.{kept}
use Rattle.varint.proofs.Ended.{value}
use Rattle.varint.proofs.Squeeze.{Pair, lanes, whole, near, squeeze-step}

abbrev two : ℕ → ℕ → Pair
two a b = record { lo = a; hi = b }

-- neighbours, then pairs, then fours
bytes-near : (a b c d e f g h : ℕ) → a < 256 → b < 256 → c < 256 → d < 256 → e < 256 → f < 256 → g < 256 → h < 256 →
    (x : ℕ) → x ≡ a + 2 ^ 8 * b + 2 ^ 16 * c + 2 ^ 24 * d + 2 ^ 32 * e + 2 ^ 40 * f + 2 ^ 48 * g + 2 ^ 56 * h →
    bit_or (bit_and x 0x007f007f007f007f) (bit_and x 0x7f007f007f007f00 / 2)
    ≡ (a % 128 + 128 * (b % 128)) + 2 ^ 16 * (c % 128 + 128 * (d % 128)) + 2 ^ 32 * (e % 128 + 128 * (f % 128)) + 2 ^ 48 * (g % 128 + 128 * (h % 128))
bytes-near a b c d e f g h la lb lc ld le lf lg lh x q =
    let is : lanes 7 1 (whole 7 1) (two a b ∷ two c d ∷ two e f ∷ two g h ∷ []) ≡ x =
    rw (mod-eq_of_lt la, mod-eq_of_lt lb, mod-eq_of_lt lc, mod-eq_of_lt ld, mod-eq_of_lt le, mod-eq_of_lt lf, mod-eq_of_lt lg, mod-eq_of_lt lh) (omega arith) in
    rw (← is) (squeeze-step 7 1 (two a b ∷ two c d ∷ two e f ∷ two g h ∷ []) ∙ omega arith)

pairs-near : (a b c d : ℕ) → a < 2 ^ 14 → b < 2 ^ 14 → c < 2 ^ 14 → d < 2 ^ 14 → (y : ℕ) → y ≡ a + 2 ^ 16 * b + 2 ^ 32 * c + 2 ^ 48 * d →
    bit_or (bit_and y 0x00003fff00003fff) (bit_and y 0x3fff00003fff0000 / 4) ≡ (a + 2 ^ 14 * b) + 2 ^ 32 * (c + 2 ^ 14 * d)
pairs-near a b c d ha hb hc hd y e =
    let is : lanes 14 2 (whole 14 2) (two a b ∷ two c d ∷ []) ≡ y = omega arith in
    let to : lanes 14 2 (near 14 2) (two a b ∷ two c d ∷ []) ≡ (a + 2 ^ 14 * b) + 2 ^ 32 * (c + 2 ^ 14 * d) =
    rw (mod-eq_of_lt ha, mod-eq_of_lt hb, mod-eq_of_lt hc, mod-eq_of_lt hd) (omega arith) in
    rw (← is) (squeeze-step 14 2 (two a b ∷ two c d ∷ []) ∙ to)

fours-near : (a b : ℕ) → a < 2 ^ 28 → b < 2 ^ 28 → (y : ℕ) → y ≡ a + 2 ^ 32 * b →
    bit_or (bit_and y 0x0fffffff) (bit_and y 0x0fffffff00000000 / 16) ≡ a + 2 ^ 28 * b
fours-near a b ha hb y e =
    let is : lanes 28 4 (whole 28 4) (two a b ∷ []) ≡ y = omega arith in
    rw (← is) (squeeze-step 28 4 (two a b ∷ []) ∙ omega arith)

-- the payloads of a word by its bytes
payloads-more : (n b y : ℕ) → b < 256 → payloads (suc n) (b + 256 * y) ≡ b % 128 + 128 * payloads n y
unfolding payloads
payloads-more n b y h =
    let low : (b + 256 * y) % 128 ≡ b % 128 = omega arith in
    let over : (b + 256 * y) / 256 ≡ y = omega arith in
    rw (low, over)

payloads-one : (b : ℕ) → payloads 1 b ≡ b % 128
unfolding payloads
payloads-one b = omega arith

abbrev pub squeeze : ℕ → ℕ
squeeze x =
    let a : ℕ = bit_or (bit_and x 0x007f007f007f007f) (bit_and x 0x7f007f007f007f00 / 2) in
    let b : ℕ = bit_or (bit_and a 0x00003fff00003fff) (bit_and a 0x3fff00003fff0000 / 4) in
    bit_or (bit_and b 0x0fffffff) (bit_and b 0x0fffffff00000000 / 16)

squeezed-digits : (a b c d e f g h : ℕ) → a < 256 → b < 256 → c < 256 → d < 256 → e < 256 → f < 256 → g < 256 → h < 256 →
    (x : ℕ) → x ≡ a + 256 * (b + 256 * (c + 256 * (d + 256 * (e + 256 * (f + 256 * (g + 256 * h)))))) → squeeze x ≡ payloads 8 x
squeezed-digits a b c d e f g h la lb lc ld le lf lg lh x q =
    fours-near _ _ (omega arith) (omega arith) _
    (pairs-near (a % 128 + 128 * (b % 128)) (c % 128 + 128 * (d % 128)) (e % 128 + 128 * (f % 128)) (g % 128 + 128 * (h % 128))
    (omega arith) (omega arith) (omega arith) (omega arith) _
    (bytes-near a b c d e f g h la lb lc ld le lf lg lh x (omega arith)))
    ∙ sym made
  where
    made : payloads 8 x
        ≡ (a % 128 + 128 * (b % 128) + 2 ^ 14 * (c % 128 + 128 * (d % 128))) + 2 ^ 28 * (e % 128 + 128 * (f % 128) + 2 ^ 14 * (g % 128 + 128 * (h % 128)))
    made =
        rw (
          q,
          payloads-more 7 a (b + 256 * (c + 256 * (d + 256 * (e + 256 * (f + 256 * (g + 256 * h)))))) la,
          payloads-more 6 b (c + 256 * (d + 256 * (e + 256 * (f + 256 * (g + 256 * h))))) lb,
          payloads-more 5 c (d + 256 * (e + 256 * (f + 256 * (g + 256 * h)))) lc,
          payloads-more 4 d (e + 256 * (f + 256 * (g + 256 * h))) ld,
          payloads-more 3 e (f + 256 * (g + 256 * h)) le,
          payloads-more 2 f (g + 256 * h) lf,
          payloads-more 1 g h lg,
          payloads-one h,
        )
        (omega arith)

pub squeezed-is : (x : ℕ) → x < 2 ^ 64 → squeeze x ≡ payloads 8 x
squeezed-is x fits = go _ _ _ _ _ _ _ refl refl refl refl refl refl refl
  where
    go : (b c d e f g h : ℕ) → b ≡ x / 256 → c ≡ b / 256 → d ≡ c / 256 → e ≡ d / 256 → f ≡ e / 256 → g ≡ f / 256 → h ≡ g / 256 →
        squeeze x ≡ payloads 8 x
    go b c d e f g h qb qc qd qe qf qg qh =
        squeezed-digits (x % 256) (b % 256) (c % 256) (d % 256) (e % 256) (f % 256) (g % 256) h
        (omega arith) (omega arith) (omega arith) (omega arith) (omega arith) (omega arith) (omega arith) (omega arith) x (omega arith)

-- seven bits a byte
pub payloads-lt : (n x : ℕ) → payloads n x < 2 ^ (7 * n)
unfolding payloads
payloads-lt zero x = omega arith
payloads-lt (suc n) x =
    let more : 2 ^ (7 * suc n) ≡ 2 ^ (7 * n) * 128 = ap (λ (k : ℕ). 2 ^ k) (omega arith) ∙ pow-add 2 (7 * n) 7 in
    omega (arith, payloads-lt n (x / 256))

payloads-zero : (n : ℕ) → payloads n 0 ≡ 0
unfolding payloads
payloads-zero zero = refl
payloads-zero (suc n) = rw (payloads-zero n)

-- the payloads of the bytes up to the first that ends the number
pub payloads-are : {bs : List ℕ} → Bytes bs → payloads (length bs) (kept bs) ≡ value bs
unfolding payloads kept value
payloads-are none = refl
payloads-are (more {b} {bs} h r) = go (payloads-are r) (ltb b 128) refl
  where
    go : payloads (length bs) (kept bs) ≡ value bs → (t : Bool) → ltb b 128 ≡ t →
        payloads (suc (length bs)) (if t then b else (kept bs * 2 ^ 8 + b)) ≡ (if t then b else (b % 128 + 128 * value bs))
    go rest true e =
        let l : b < 128 = ltb-true _ _ e in
        let over : b / 256 ≡ 0 = omega arith in
        rw (over, payloads-zero (length bs)) (omega arith)
    go rest false e =
        let over : (kept bs * 2 ^ 8 + b) / 256 ≡ kept bs = omega arith in
        rw (over, rest) (omega arith)

-- a byte shifted above a number and or-ed in
or-on : (k v b : ℕ) → k < 8 → v < 2 ^ (8 * k) → b < 256 → bit_or v (b * 2 ^ (8 * k) % 2 ^ 64) ≡ v + b * 2 ^ (8 * k)
or-on k v b h fits byte = rw (shl_exact {a = b} 8 (8 * k) 64 byte (omega arith), or_shifted_r b (8 * k) v fits) (add_comm _ _)

pub bytes-at : (s : List ℕ) → ((i : ℕ) → get_or s i 0 < 256) → (at n : ℕ) → Bytes (bytes_at s at n)
unfolding bytes_at
bytes-at s each at zero = none
bytes-at s each at (suc n) = more (each at) (bytes-at s each (at + 1) n)

pub length_at : (s : List ℕ) (at n : ℕ) → length (bytes_at s at n) ≡ n
unfolding bytes_at
length_at s at zero = refl
length_at s at (suc n) = ap suc (length_at s (at + 1) n)

eight-bytes : (a b c d e f g h : ℕ) → a < 256 → b < 256 → c < 256 → d < 256 → e < 256 → f < 256 → g < 256 → h < 256 →
    bit_or (bit_or (bit_or (bit_or (bit_or (bit_or (bit_or a (b * 2 ^ 8 % 2 ^ 64)) (c * 2 ^ 16 % 2 ^ 64)) (d * 2 ^ 24 % 2 ^ 64)) (e * 2 ^ 32 % 2 ^ 64)) (f * 2 ^ 40 % 2 ^ 64)) (g * 2 ^ 48 % 2 ^ 64)) (h * 2 ^ 56 % 2 ^ 64)
    ≡ word (a ∷ b ∷ c ∷ d ∷ e ∷ f ∷ g ∷ h ∷ [])
unfolding word
eight-bytes a b c d e f g h la lb lc ld le lf lg lh =
    rw (
      or-on 1 a b (omega arith) (omega arith) lb,
      or-on 2 (a + b * 2 ^ 8) c (omega arith) (omega arith) lc,
      or-on 3 (a + b * 2 ^ 8 + c * 2 ^ 16) d (omega arith) (omega arith) ld,
      or-on 4 (a + b * 2 ^ 8 + c * 2 ^ 16 + d * 2 ^ 24) e (omega arith) (omega arith) le,
      or-on 5 (a + b * 2 ^ 8 + c * 2 ^ 16 + d * 2 ^ 24 + e * 2 ^ 32) f (omega arith) (omega arith) lf,
      or-on 6 (a + b * 2 ^ 8 + c * 2 ^ 16 + d * 2 ^ 24 + e * 2 ^ 32 + f * 2 ^ 40) g (omega arith) (omega arith) lg,
      or-on 7 (a + b * 2 ^ 8 + c * 2 ^ 16 + d * 2 ^ 24 + e * 2 ^ 32 + f * 2 ^ 40 + g * 2 ^ 48) h (omega arith) (omega arith) lh,
    )
    (omega arith)

bytes-eight : (s : List ℕ) (at : ℕ) →
    bytes_at s at 8
    ≡ get_or s at 0 ∷ get_or s (at + 1) 0 ∷ get_or s (at + 2) 0 ∷ get_or s (at + 3) 0 ∷ get_or s (at + 4) 0 ∷ get_or s (at + 5) 0 ∷ get_or s (at + 6) 0 ∷ get_or s (at + 7) 0 ∷ []
unfolding bytes_at
bytes-eight s at = rw (add_assoc at 1 1, add_assoc at 2 1, add_assoc at 3 1, add_assoc at 4 1, add_assoc at 5 1, add_assoc at 6 1)

pub eight_are : (s : List ℕ) → ((i : ℕ) → get_or s i 0 < 256) → (at : ℕ) →
    bit_or (bit_or (bit_or (bit_or (bit_or (bit_or (bit_or (get_or s at 0) (get_or s (at + 1) 0 * 2 ^ 8 % 2 ^ 64)) (get_or s (at + 2) 0 * 2 ^ 16 % 2 ^ 64)) (get_or s (at + 3) 0 * 2 ^ 24 % 2 ^ 64)) (get_or s (at + 4) 0 * 2 ^ 32 % 2 ^ 64)) (get_or s (at + 5) 0 * 2 ^ 40 % 2 ^ 64)) (get_or s (at + 6) 0 * 2 ^ 48 % 2 ^ 64)) (get_or s (at + 7) 0 * 2 ^ 56 % 2 ^ 64)
    ≡ word (bytes_at s at 8)
eight_are s each at =
    rw (bytes-eight s at)
    (eight-bytes _ _ _ _ _ _ _ _ (each at) (each (at + 1)) (each (at + 2)) (each (at + 3)) (each (at + 4)) (each (at + 5)) (each (at + 6)) (each (at + 7)))
