-- The bits of a signed number, by its size or by its complement's.
use Prim.Native.Nat.{suc, ◌-◌, ◌^◌, ◌<◌, zero-le}
use mathlib.Core.Path.{◌≡◌, sym, ◌∙◌, ap}
use mathlib.Core.Bool.{true, false, true≢false, false≢true}
use native.Mathlib.Omega.{arith}
use lib.IntN.{ℤ, pos, negsuc, nat_abs}
use lib.Signed.{le_z}
use borrow.Author.Tests.{le-leb}
use mir.Syntax.{w64}
use mir.Val.{SFits, of_z, to_z}
use mir.ValLaws.{to_z_pos, to_z-of_z}

pub not-negative-bits : (z : ℤ) → SFits w64 z → le_z (pos 0) (to_z w64 (of_z w64 z)) ≡ true → nat_abs (to_z w64 (of_z w64 z)) ≡ of_z w64 z
not-negative-bits (pos n) fits e = ap nat_abs (to_z-of_z w64 (pos n) fits)
not-negative-bits (negsuc n) fits e = absurd (false≢true (rw (to_z-of_z w64 (negsuc n) fits) at e))

pub negative-bits : (z : ℤ) → SFits w64 z → le_z (pos 0) (to_z w64 (of_z w64 z)) ≡ false →
    (2 ^ 64 - 1) - nat_abs (to_z w64 ((2 ^ 64 - 1) - of_z w64 z)) ≡ of_z w64 z
negative-bits (pos n) fits e = absurd (true≢false (sym (le-leb 0 n zero-le) ∙ (rw (to_z-of_z w64 (pos n) fits) at e)))
negative-bits (negsuc n) fits e =
    let h : n < 2 ^ 63 = fits.sfits in
    let back : (2 ^ 64 - 1) - (2 ^ 64 - suc n) ≡ n = omega arith in
    rw (back, to_z_pos w64 n h) (omega arith)
