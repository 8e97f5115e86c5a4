-- What is put of a word, as of the field that it stands for.
use Rattle.std.specs.Prelude.{Option, Some, None}
use Rattle.std.proofs.Common.{if◌then◌else◌}
use Prim.Native.Nat.{ℕ, zero, suc, ◌+◌, ◌*◌, ◌-◌, ◌/◌, ◌%◌, ◌^◌, ◌≤◌, ◌<◌}
use native.Mathlib.Nat.{pow-suc, div-div-eq-div-mul}
use Rattle.std.specs.Int.{bytes_low_first}
use Rattle.grammar.specs.Combinators.{low_bytes}
use mathlib.Core.Bool.{Bool, true, false, not}
use mathlib.Core.Path.{◌≡◌, refl, sym, ◌∙◌, ap}
use mathlib.Core.List.{List, [], ◌∷◌}
use native.Mathlib.Omega.{arith}
use lib.Bits.{bit_or}
use lib.Dec.{eqb}
use mir.Syntax.{w64}
use mir.Val.{to_z}
use mir.ValLaws.{to_z_pos, to_z-neg}
use Rattle.grammar.specs.Number.{shortest, shortest_in, zigzag}
use Rattle.varint.proofs.Halves.{doubled, doubled-one}
use Rattle.format.specs.declared.records.Access.{Access}
use Rattle.rows.specs.Back.{index, signed, literal_of, access_of, this_of}
use Rattle.written.specs.Put.{put_literal, put_access, put_this}

-- the library's bytes of a number are its low bytes
low-tail : (i k n : ℕ) → bytes_low_first (suc i) k n ≡ low_bytes k (n / 256 ^ suc i)
low-tail i zero n = refl
low-tail i (suc k) n =
    let next : n / 256 ^ suc (suc i) ≡ n / 256 ^ suc i / 256 = ap (λ (d : ℕ). n / d) (pow-suc 256 (suc i)) ∙ sym (div-div-eq-div-mul n (256 ^ suc i) 256) in
    ap (λ (l : List ℕ). n / 256 ^ suc i % 256 ∷ l) (low-tail (suc i) k n ∙ ap (low_bytes k) next)

pub low-first : (k n : ℕ) → bytes_low_first 0 k n ≡ low_bytes k n
low-first zero n = refl
low-first (suc k) n = ap (λ (l : List ℕ). n % 256 ∷ l) (low-tail 0 k n)

-- twice the word in the lower half, twice its complement and one in the upper
pub fold-low : (w : ℕ) → w < 2 ^ 63 → w * 2 % 2 ^ 64 ≡ zigzag (signed w)
unfolding zigzag
fold-low w h = doubled w h ∙ sym (ap zigzag (to_z_pos w64 w h))

pub fold-high : (w : ℕ) → w < 2 ^ 64 → 2 ^ 63 ≤ w → bit_or (((2 ^ 64 - 1) - w) * 2 % 2 ^ 64) 1 ≡ zigzag (signed w)
unfolding zigzag
fold-high w h up =
    let back : w ≡ 2 ^ 64 - suc ((2 ^ 64 - 1) - w) = omega arith in
    doubled-one ((2 ^ 64 - 1) - w) (omega arith) ∙ sym (ap zigzag (ap (to_z w64) back ∙ to_z-neg w64 ((2 ^ 64 - 1) - w) (omega arith)))

-- a flag as the number of an access, and as the byte that says inclusive
pub access-word : (w : ℕ) → (if eqb w 0 then 0 else 1) ∷ [] ≡ put_access (access_of w)
unfolding shortest shortest_in
access-word w = go (eqb w 0)
  where
    go : (b : Bool) → (if b then 0 else 1) ∷ [] ≡ put_access (if b then Access.Public else Access.Private)
    go true = refl
    go false = refl

pub inclusive-word : (w : ℕ) → ◌≡◌ {A = List ℕ} ((if eqb w 0 then 0 else 1) ∷ []) ((if not (eqb w 0) then 1 else 0) ∷ [])
inclusive-word w = go (eqb w 0)
  where
    go : (b : Bool) → ◌≡◌ {A = List ℕ} ((if b then 0 else 1) ∷ []) ((if not b then 1 else 0) ∷ [])
    go true = refl
    go false = refl
