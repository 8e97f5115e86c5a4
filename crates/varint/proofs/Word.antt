-- Bytes joined to a word, low byte first: which of them end a number, and the word up to the first that does.
use Rattle.std.proofs.Common.{◌≡◌, ℕ, zero, suc, ◌+◌, ◌-◌, ◌*◌, ◌/◌, ◌%◌, ◌^◌, ◌<◌, ◌≤◌, Bool, true, false, ltb, List, [], ◌∷◌, length, sym, refl, ap, ◌∙◌, ap₂, mul_assoc, pow-suc, arith, pow-add, ltb-false, ltb-true, le-ltb, if◌then◌else◌}
use lib.Bits.{bit_and, and_block, and_mask, and_high, and_zero_r}
use lib.Count.{count_trailing_zeros}
use Rattle.varint.specs.Word.{word, Bytes, none, more}

-- the top bit of each byte that has it clear, and so ends a number
unfoldable pub ends : List ℕ → ℕ
ends [] = 0
ends (b ∷ bs) = ends bs * 2 ^ 8 + (1 - b / 128) * 128

-- the top bit of each of n bytes
unfoldable pub tops : ℕ → ℕ
tops zero = 0
tops (suc n) = tops n * 2 ^ 8 + 128

-- how many bytes it takes to the first that ends a number, with it
unfoldable pub taken : List ℕ → ℕ
taken [] = 0
taken (b ∷ bs) = if ltb b 128 then 1 else suc (taken bs)

-- the bytes up to the first that ends a number
unfoldable pub kept : List ℕ → ℕ
kept [] = 0
kept (b ∷ bs) = if ltb b 128 then b else (kept bs * 2 ^ 8 + b)

-- a byte that ends a number has no bit in common with its mark
pub apart : {bs : List ℕ} → Bytes bs → bit_and (word bs) (ends bs) ≡ 0
unfolding word ends
apart none = refl
apart (more {b} {bs} h r) =
    and_block 8 (word bs) (ends bs) b ((1 - b / 128) * 128) (omega arith) (omega arith)
    ∙ rw (apart r) (omega (arith, mark (ltb b 128) refl))
  where
    mark : (t : Bool) → ltb b 128 ≡ t → bit_and b ((1 - b / 128) * 128) ≡ 0
    mark true e =
        let l : b < 128 = ltb-true _ _ e in
        let m : (1 - b / 128) * 128 ≡ 2 ^ (1 + 7) - 2 ^ 7 = omega arith in
        rw (m, and_high b 1 7) (omega arith)
    mark false e =
        let l : 128 ≤ b = ltb-false _ _ e in
        let m : (1 - b / 128) * 128 ≡ 0 = omega arith in
        rw m (and_zero_r b)

-- the marks of n bytes: the top bits of the complement
module _ (n : ℕ) where
  ones-more : 2 ^ (8 * suc n) ≡ 2 ^ (8 * n) * 256
  ones-more = ap (λ (k : ℕ). 2 ^ k) (omega arith) ∙ pow-add 2 (8 * n) 8

pub word_lt : {bs : List ℕ} → Bytes bs → word bs < 2 ^ (8 * length bs)
unfolding word
word_lt none = omega arith
word_lt (more {b} {bs} h r) = rw (ones-more (length bs)) (omega (arith, word_lt r))

pub ends-are : {bs : List ℕ} → Bytes bs → bit_and ((2 ^ (8 * length bs) - 1) - word bs) (tops (length bs)) ≡ ends bs
unfolding word ends tops
ends-are none = refl
ends-are (more {b} {bs} h r) =
    let split : (2 ^ (8 * suc (length bs)) - 1) - (word bs * 2 ^ 8 + b) ≡ ((2 ^ (8 * length bs) - 1) - word bs) * 2 ^ 8 + (255 - b) =
    rw (ones-more (length bs)) (omega (arith, word_lt r)) in
    let top : bit_and (255 - b) (2 ^ (1 + 7) - 2 ^ 7) ≡ (1 - b / 128) * 128 = rw (and_high (255 - b) 1 7) (omega arith) in
    rw split
    (and_block 8 ((2 ^ (8 * length bs) - 1) - word bs) (tops (length bs)) (255 - b) 128 (omega arith) (omega arith)
    ∙ ap₂ (λ (x y : ℕ). x * 2 ^ 8 + y) (ends-are r) top)

-- a word and its marks less one: the bytes up to the first that ends the number, which one of them does
pub kept-is : {bs : List ℕ} → Bytes bs → 0 < ends bs → bit_and (word bs) (ends bs - 1) ≡ kept bs
unfolding word ends kept
kept-is none h = absurd (omega arith)
kept-is (more {b} {bs} h r) some = go (λ q. kept-is r q) (ltb b 128) refl
  where
    go : (0 < ends bs → bit_and (word bs) (ends bs - 1) ≡ kept bs) → (t : Bool) → ltb b 128 ≡ t →
        bit_and (word bs * 2 ^ 8 + b) ((ends bs * 2 ^ 8 + (1 - b / 128) * 128) - 1) ≡ (if t then b else (kept bs * 2 ^ 8 + b))
    go rest true e =
        let l : b < 128 = ltb-true _ _ e in
        let m : (ends bs * 2 ^ 8 + (1 - b / 128) * 128) - 1 ≡ ends bs * 2 ^ 8 + (2 ^ 7 - 1) = omega arith in
        rw m
        (and_block 8 (word bs) (ends bs) b (2 ^ 7 - 1) (omega arith) (omega arith)
        ∙ ap₂ (λ (x y : ℕ). x * 2 ^ 8 + y) (apart r) (and_mask b 7) ∙ omega arith)
    go rest false e =
        let l : 128 ≤ b = ltb-false _ _ e in
        let behind : 0 < ends bs = omega arith in
        let m : (ends bs * 2 ^ 8 + (1 - b / 128) * 128) - 1 ≡ (ends bs - 1) * 2 ^ 8 + (2 ^ 8 - 1) = omega arith in
        rw m
        (and_block 8 (word bs) (ends bs - 1) b (2 ^ 8 - 1) (omega arith) (omega arith)
        ∙ ap₂ (λ (x y : ℕ). x * 2 ^ 8 + y) (rest behind) (and_mask b 8) ∙ omega arith)

-- and where no byte ends it, all of them
pub kept-all : (bs : List ℕ) → ends bs ≡ 0 → kept bs ≡ word bs
unfolding word ends kept
kept-all [] endless = refl
kept-all (b ∷ bs) endless =
    let l : 128 ≤ b = omega arith in
    rw (le-ltb b 128 l, kept-all bs (omega arith))

-- the lowest mark is the top bit of the byte that ends the number
zeros-even : (k m : ℕ) → count_trailing_zeros (suc k) (m * 2) ≡ suc (count_trailing_zeros k m)
unfolding count_trailing_zeros
zeros-even k m =
    let even : m * 2 % 2 ≡ 0 = omega arith in
    let half : m * 2 / 2 ≡ m = omega arith in
    rw (even, half)

zeros-odd : (k m : ℕ) → count_trailing_zeros (suc k) (m * 2 + 1) ≡ 0
unfolding count_trailing_zeros
zeros-odd k m =
    let odd : (m * 2 + 1) % 2 ≡ 1 = omega arith in
    rw odd

zeros_by : (j k m : ℕ) → count_trailing_zeros (j + k) (m * 2 ^ j) ≡ j + count_trailing_zeros k m
zeros_by zero k m =
    let n : 0 + k ≡ k = omega arith in
    let e : m * 2 ^ 0 ≡ m = omega arith in
    rw (n, e) (omega arith)
zeros_by (suc j) k m =
    let n : suc j + k ≡ suc (j + k) = omega arith in
    let e : m * 2 ^ suc j ≡ m * 2 ^ j * 2 = ap (λ (x : ℕ). m * x) (pow-suc 2 j) ∙ sym (mul_assoc m (2 ^ j) 2) in
    rw (n, e, zeros-even (j + k) (m * 2 ^ j), zeros_by j k m) (omega arith)

pub zeros-are : {bs : List ℕ} → Bytes bs → 0 < ends bs → count_trailing_zeros (8 * length bs) (ends bs) + 1 ≡ 8 * taken bs
unfolding ends taken
zeros-are none h = absurd (omega arith)
zeros-are (more {b} {bs} h r) some = go (λ q. zeros-are r q) (ltb b 128) refl
  where
    go : (0 < ends bs → count_trailing_zeros (8 * length bs) (ends bs) + 1 ≡ 8 * taken bs) → (t : Bool) → ltb b 128 ≡ t →
        count_trailing_zeros (8 * suc (length bs)) (ends bs * 2 ^ 8 + (1 - b / 128) * 128) + 1 ≡ 8 * (if t then 1 else suc (taken bs))
    go rest true e =
        let l : b < 128 = ltb-true _ _ e in
        let m : ends bs * 2 ^ 8 + (1 - b / 128) * 128 ≡ (ends bs * 2 + 1) * 2 ^ 7 = omega arith in
        let n : 8 * suc (length bs) ≡ 7 + suc (8 * length bs) = omega arith in
        rw (m, n, zeros_by 7 (suc (8 * length bs)) (ends bs * 2 + 1), zeros-odd (8 * length bs) (ends bs))
    go rest false e =
        let l : 128 ≤ b = ltb-false _ _ e in
        let behind : 0 < ends bs = omega arith in
        let m : ends bs * 2 ^ 8 + (1 - b / 128) * 128 ≡ ends bs * 2 ^ 8 = omega arith in
        let n : 8 * suc (length bs) ≡ 8 + 8 * length bs = omega arith in
        rw (m, n, zeros_by 8 (8 * length bs) (ends bs)) (omega (arith, rest behind))

pub taken-le : {bs : List ℕ} → Bytes bs → taken bs ≤ length bs
unfolding taken
taken-le none = omega arith
taken-le (more {b} {bs} h r) = go (taken-le r) (ltb b 128)
  where
    go : taken bs ≤ length bs → (t : Bool) → (if t then 1 else suc (taken bs)) ≤ suc (length bs)
    go rest true = omega arith
    go rest false = omega arith
