-- Zigzag by complement, in the words of the machine's signed numbers.
use Rattle.std.proofs.Common.{◌≡◌, ℕ, suc, ◌+◌, ◌-◌, ◌*◌, ◌/◌, ◌%◌, ◌^◌, ◌<◌, true, false, ℤ, pos, negsuc, sym, refl, ◌∙◌, true≢false, zero-le, arith, w64, SFits, to_z, of_z, eq-eqb, ne_eqb, le-leb}
use mathlib.Core.Bool.{false≢true}
use lib.Bits.{bit_and, bit_or, and_mask, or_shifted}
use lib.Signed.{le_z}
use mir.ValLaws.{to_z_pos, to_z-neg, to_z-of_z}
use Rattle.grammar.specs.Number.{zigzag, unzigzag}

-- twice a number, and one more, without loss
pub doubled : (n : ℕ) → n < 2 ^ 63 → n * 2 % 2 ^ 64 ≡ 2 * n
doubled n h = omega arith

pub doubled-one : (n : ℕ) → n < 2 ^ 63 → bit_or (n * 2 % 2 ^ 64) 1 ≡ 2 * n + 1
doubled-one n h =
    let e : n * 2 % 2 ^ 64 ≡ n * 2 ^ 1 = omega arith in
    rw (e, or_shifted n 1 1 (omega arith)) (omega arith)

-- a signed number of some sign, as its bits or their complement hold it
pub record Half (z bits : ℤ) (odd : ℕ) : Type 0 where
  pub half : ℕ
  pub small : half < 2 ^ 63
  pub is : bits ≡ pos half
  pub means : zigzag z ≡ 2 * half + odd

held-pos : (n : ℕ) → SFits w64 (pos n) → Half (pos n) (to_z w64 (of_z w64 (pos n))) 0
unfolding zigzag
held-pos n fits = record { half = n; small = fits.sfits; is = to_z-of_z w64 (pos n) fits; means = omega arith }

held-neg : (n : ℕ) → SFits w64 (negsuc n) → Half (negsuc n) (to_z w64 ((2 ^ 64 - 1) - of_z w64 (negsuc n))) 1
unfolding zigzag
held-neg n fits =
    let h : n < 2 ^ 63 = fits.sfits in
    let e : (2 ^ 64 - 1) - (2 ^ 64 - suc n) ≡ n = omega arith in
    record { half = n; small = h; is = rw e (to_z_pos w64 n h); means = refl }

pub not_negative : (z : ℤ) → SFits w64 z → le_z (pos 0) (to_z w64 (of_z w64 z)) ≡ true → Half z (to_z w64 (of_z w64 z)) 0
not_negative (pos n) fits e = held-pos n fits
not_negative (negsuc n) fits e = absurd (false≢true (rw (to_z-of_z w64 (negsuc n) fits) at e))

pub negative : (z : ℤ) → SFits w64 z → le_z (pos 0) (to_z w64 (of_z w64 z)) ≡ false → Half z (to_z w64 ((2 ^ 64 - 1) - of_z w64 z)) 1
negative (pos n) fits e = absurd (true≢false (sym (le-leb 0 n zero-le) ∙ (rw (to_z-of_z w64 (pos n) fits) at e)))
negative (negsuc n) fits e = held-neg n fits

-- the way back: half of the number, or its complement
pub even_is : (u : ℕ) → u < 2 ^ 64 → bit_and u 1 ≡ 0 → to_z w64 (u / 2) ≡ unzigzag u
unfolding unzigzag
even_is u h e =
    let even : u % 2 ≡ 0 = sym (and_mask u 1) ∙ e in
    rw (to_z_pos w64 (u / 2) (omega arith), eq-eqb (u % 2) 0 even)

pub odd_is : (u : ℕ) → u < 2 ^ 64 → (bit_and u 1 ≡ 0 → ⊥) → to_z w64 ((2 ^ 64 - 1) - u / 2) ≡ unzigzag u
unfolding unzigzag
odd_is u h e =
    let odd : u % 2 ≡ 0 → ⊥ = λ q. e (and_mask u 1 ∙ q) in
    let c : (2 ^ 64 - 1) - u / 2 ≡ 2 ^ 64 - suc (u / 2) = omega arith in
    let k : (u + 1) / 2 ≡ suc (u / 2) = omega arith in
    rw (c, to_z-neg w64 (u / 2) (omega arith), ne_eqb (u % 2) 0 odd, k)
