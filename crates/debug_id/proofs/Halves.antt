-- The arithmetic of the two halves of 64 bits: the product of the low half, what it carries into the high half, and the step as a whole.
use Rattle.std.proofs.Common.{◌≡◌, ℕ, ◌+◌, ◌*◌, ◌/◌, ◌%◌, ◌^◌, ◌<◌, sym, ap, ◌∙◌, mul_assoc, mul-add, arith}
use native.Mathlib.Nat.{add-mul-mod_self_right}
use lib.Bits.{bit_xor, xor_block, xor_zero_r, xor_lt}
use lib.Pow.{mod-pow-add, high, low}
use Rattle.debug_id.specs.DebugId.{xored, mixed, prime}

-- numbers that differ by a multiple of 2 to the 64 have one remainder
off-by : (q : ℕ) {a : ℕ} (b : ℕ) → a ≡ b + q * 2 ^ 64 → b % 2 ^ 64 ≡ a % 2 ^ 64
off-by q {a} b e = sym (ap (λ (n : ℕ). n % 2 ^ 64) e ∙ add-mul-mod_self_right b q (2 ^ 64))

-- ---- 315 times a number is 63 times five times it

five : (x : ℕ) → (x + x * 4 % 2 ^ 64) % 2 ^ 64 ≡ x * 5 % 2 ^ 64
five x = omega arith

sixty-three : (x r : ℕ) → (r + x) % 2 ^ 64 ≡ x * 64 % 2 ^ 64 → r < 2 ^ 64 → r ≡ x * 63 % 2 ^ 64
sixty-three x r e h = omega arith

in-turn : (x : ℕ) → x * 5 % 2 ^ 64 * 63 % 2 ^ 64 ≡ x * 315 % 2 ^ 64
in-turn x = off-by (x * 5 / 2 ^ 64 * 63) (x * 5 % 2 ^ 64 * 63) (omega arith)

pub five-by-63 : (x : ℕ) {f r : ℕ} → f ≡ (x + x * 4 % 2 ^ 64) % 2 ^ 64 → (r + f) % 2 ^ 64 ≡ f * 64 % 2 ^ 64 → r < 2 ^ 64
    → r ≡ x * 315 % 2 ^ 64
five-by-63 x {f} {r} e d h = sixty-three f r d h ∙ ap (λ (n : ℕ). n * 63 % 2 ^ 64) (e ∙ five x) ∙ in-turn x

-- ---- the xor touches the low byte alone

xor_low : (l b : ℕ) → b < 256 → bit_xor l b ≡ l / 256 * 256 + bit_xor (l % 256) b
xor_low l b h =
    let e : l / 256 * 2 ^ 8 + l % 256 ≡ l = omega arith in
    let s : bit_xor (l / 256 * 2 ^ 8 + l % 256) (0 * 2 ^ 8 + b) ≡ bit_xor (l / 256) 0 * 2 ^ 8 + bit_xor (l % 256) b
    = xor_block 8 (l / 256) 0 (l % 256) b (omega arith) h in
    let z : 0 * 2 ^ 8 + b ≡ b = omega arith in
    rw (e, z, xor_zero_r) at s

pub xor_above : (l b : ℕ) → b < 256 → bit_xor l b / 256 ≡ l / 256
xor_above l b h = omega (arith, xor_low l b h, xor_lt 8 (l % 256) b (omega arith) h)

xored-halves : (h l b : ℕ) → b < 256 → xored (h * 2 ^ 64 + l) b ≡ h * 2 ^ 64 + bit_xor l b
unfolding xored
xored-halves h l b lt =
    let m : (h * 2 ^ 64 + l) % 256 ≡ l % 256 = omega arith in
    rw m (omega (arith, xor_low l b lt))

-- ---- the product of the whole

-- the remainder by 2 to the 128 of a number in three parts
halves : (a b r : ℕ) → r < 2 ^ 64 → ((a + b * 2 ^ 64) * 2 ^ 64 + r) % 2 ^ 128 ≡ a % 2 ^ 64 * 2 ^ 64 + r
halves a b r h =
    mod-pow-add ((a + b * 2 ^ 64) * 2 ^ 64 + r) 64 64
    ∙ rw (high (a + b * 2 ^ 64) 64 h, low (a + b * 2 ^ 64) 64 h, add-mul-mod_self_right a b (2 ^ 64))

gather : (a b r : ℕ) → a * 2 ^ 64 + (b * 2 ^ 64 + r) ≡ (a + b) * 2 ^ 64 + r
gather a b r = omega arith

by-prime : (n : ℕ) → n * prime ≡ n * 2 ^ 24 * 2 ^ 64 + n * 315
by-prime n = mul-add n (2 ^ 88) 315 ∙ ap (λ (t : ℕ). t + n * 315) (sym (mul_assoc n (2 ^ 24) (2 ^ 64)))

product : (h x : ℕ)
    → (h * 2 ^ 64 + x) * prime % 2 ^ 128 ≡ (h * 315 + x * 2 ^ 24 + x * 315 / 2 ^ 64) % 2 ^ 64 * 2 ^ 64 + x * 315 % 2 ^ 64
product h x =
    let lows : (h * 2 ^ 64 + x) * 315 ≡ (h * 315 + x * 315 / 2 ^ 64) * 2 ^ 64 + x * 315 % 2 ^ 64 = omega arith in
    let highs : (h * 2 ^ 64 + x) * 2 ^ 24 + (h * 315 + x * 315 / 2 ^ 64)
    ≡ h * 315 + x * 2 ^ 24 + x * 315 / 2 ^ 64 + h * 2 ^ 24 * 2 ^ 64
    = omega arith in
    rw (by-prime, lows, gather, highs)
    (halves (h * 315 + x * 2 ^ 24 + x * 315 / 2 ^ 64) (h * 2 ^ 24) (x * 315 % 2 ^ 64) (omega arith))

-- one step, as halves
stepped : (h l b : ℕ) → b < 256
    → mixed (h * 2 ^ 64 + l) b
    ≡ (h * 315 + bit_xor l b * 2 ^ 24 + bit_xor l b * 315 / 2 ^ 64) % 2 ^ 64 * 2 ^ 64 + bit_xor l b * 315 % 2 ^ 64
unfolding mixed
stepped h l b lt = rw (xored-halves h l b lt) (product h (bit_xor l b))

-- ---- the sums of the high half, as the code adds them

sums : (p c q : ℕ) → (p % 2 ^ 64 + (c + q % 2 ^ 64) % 2 ^ 64) % 2 ^ 64 ≡ (p + q + c) % 2 ^ 64
sums p c q =
    off-by (p / 2 ^ 64 + q / 2 ^ 64 + (c + q % 2 ^ 64) / 2 ^ 64) (p % 2 ^ 64 + (c + q % 2 ^ 64) % 2 ^ 64) (omega arith)

again : (s z c : ℕ) → (s % 2 ^ 64 * 315 + z * 2 ^ 24 + c) % 2 ^ 64 ≡ (s * 315 + z * 2 ^ 24 + c) % 2 ^ 64
again s z c = off-by (s / 2 ^ 64 * 315) (s % 2 ^ 64 * 315 + z * 2 ^ 24 + c) (omega arith)

-- both steps' products by 2 to the 24 in one
shifted-both : (x z p k : ℕ)
    → (p + (x * 315 % 2 ^ 64 + z) % 2 ^ 64 * 2 ^ 24 + k) % 2 ^ 64 ≡ (p + (x * 315 + z) * 2 ^ 24 + k) % 2 ^ 64
shifted-both x z p k =
    off-by (x * 315 / 2 ^ 64 * 2 ^ 24 + (x * 315 % 2 ^ 64 + z) / 2 ^ 64 * 2 ^ 24)
    (p + (x * 315 % 2 ^ 64 + z) % 2 ^ 64 * 2 ^ 24 + k)
    (omega arith)

scaled-again : (h q k : ℕ) → (h * 315 % 2 ^ 64 * 315 + q + k) % 2 ^ 64 ≡ (h * 315 * 315 + q + k) % 2 ^ 64
scaled-again h q k = off-by (h * 315 / 2 ^ 64 * 315) (h * 315 % 2 ^ 64 * 315 + q + k) (omega arith)

sums-two : (h x z c : ℕ)
    → (h * 315 % 2 ^ 64 * 315 % 2 ^ 64
    + (x * 315 / 2 ^ 64 * 315 + c + (x * 315 % 2 ^ 64 + z) % 2 ^ 64 * 2 ^ 24 % 2 ^ 64) % 2 ^ 64) % 2 ^ 64
    ≡ ((h * 315 + x * 2 ^ 24 + x * 315 / 2 ^ 64) % 2 ^ 64 * 315 + z * 2 ^ 24 + c) % 2 ^ 64
sums-two h x z c =
    let e : h * 315 * 315 + (x * 315 + z) * 2 ^ 24 + (x * 315 / 2 ^ 64 * 315 + c)
    ≡ (h * 315 + x * 2 ^ 24 + x * 315 / 2 ^ 64) * 315 + z * 2 ^ 24 + c
    = omega arith in
    rw (sums, scaled-again, shifted-both, e, again)

-- ---- the steps, from what the code's parts give

pub one-step : (h l b : ℕ) {k a s hi lo : ℕ} → b < 256
    → k ≡ bit_xor l b * 315 / 2 ^ 64
    → a ≡ (k + bit_xor l b * 2 ^ 24 % 2 ^ 64) % 2 ^ 64
    → lo ≡ bit_xor l b * 315 % 2 ^ 64
    → s ≡ h * 315 % 2 ^ 64
    → hi ≡ (s + a) % 2 ^ 64
    → hi * 2 ^ 64 + lo ≡ mixed (h * 2 ^ 64 + l) b
one-step h l b lt ek ea el es eh = rw (stepped h l b lt, eh, es, ea, ek, el, sums)

pub two_steps : (h l b b' : ℕ) {y w k a s t hi lo : ℕ} → b < 256 → b' < 256
    → y ≡ bit_xor l b * 315 % 2 ^ 64
    → w ≡ (y + bit_xor y b') % 2 ^ 64
    → k ≡ bit_xor l b * 315 / 2 ^ 64 * 315 + bit_xor y b' * 315 / 2 ^ 64
    → a ≡ (k + w * 2 ^ 24 % 2 ^ 64) % 2 ^ 64
    → lo ≡ bit_xor y b' * 315 % 2 ^ 64
    → s ≡ h * 315 % 2 ^ 64
    → t ≡ s * 315 % 2 ^ 64
    → hi ≡ (t + a) % 2 ^ 64
    → hi * 2 ^ 64 + lo ≡ mixed (mixed (h * 2 ^ 64 + l) b) b'
two_steps h l b b' {y = y} lt lt' ey ew ek ea el es et eh =
    let above : ℕ = (h * 315 + bit_xor l b * 2 ^ 24 + bit_xor l b * 315 / 2 ^ 64) % 2 ^ 64 in
    rw (stepped h l b lt, ← ey, stepped above y b' lt', eh, et, es, ea, ek, ew, el)
    (ap (λ (n : ℕ). n * 2 ^ 64 + bit_xor y b' * 315 % 2 ^ 64)
    (rw (← ey) at (sums-two h (bit_xor l b) (bit_xor y b') (bit_xor y b' * 315 / 2 ^ 64))))
