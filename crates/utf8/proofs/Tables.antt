-- The tables are right: a test that antt computes at each byte and at each of the ten numbers of states, and the laws that turn it
-- into the rule. And what the code looks up is what the rule speaks of, since a mask is a remainder. Assumes nothing.
use mathlib.Core.Path.{◌≡◌, refl, ◌∙◌, ap, sym, subst}
use mathlib.Core.Bool.{Bool, true, false, ◌&&◌}
use mathlib.Core.List.{List, [], ◌∷◌}
use Prim.Native.Nat.{ℕ, zero, suc, ◌*◌, ◌/◌, ◌%◌, ◌^◌, ◌≤◌, ◌<◌}
use native.Mathlib.Decide.{dec_lt}
use native.Mathlib.Nat.{not-suc-le-zero}
use native.Mathlib.Omega.{arith}
use lib.Bits.{bit_and, and_mask}
use lib.ListN.{get_or}
use lib.Dec.{T, leb, eqb, leb→le, eqb→eq}
use mir.Facts.{and_yes}
use Rattle.utf8.specs.Syntax.{Range, ◌to◌}
use Rattle.utf8.specs.Check.{State, owes, refused, next}
use Rattle.utf8.specs.Machine.{state_of, Numbered, Means, Tables, looked}

-- the test passes at each number below n
unfoldable pub below : (ℕ → Bool) → ℕ → Bool
below f zero = true
below f (suc n) = f n && below f n

below_at : (f : ℕ → Bool) (n : ℕ) → T (below f n) → (k : ℕ) → k < n → T (f k)
unfolding below
below_at f zero t k h = absurd (not-suc-le-zero h)
below_at f (suc n) t k h =
    let both = and_yes (f n) (below f n) t in
    elim (dec_lt k n) [
      | yes less ↦ below_at f n both.1 k less
      | no last ↦ let e : n ≡ k = omega arith in subst (λ (i : ℕ). T (f i)) e both.0
    ]

pub numbered-at : (f : ℕ → Bool) → T (below (λ k. f (6 * k)) 10) → (n : ℕ) → Numbered n → T (f n)
numbered-at f t n h =
    let whole : n % 6 ≡ 0 = h.whole in
    let small : n ≤ 54 = h.small in
    let e : 6 * (n / 6) ≡ n = omega arith in
    subst (λ (i : ℕ). T (f i)) e (below_at (λ k. f (6 * k)) 10 t (n / 6) (omega arith))

-- two states are the same
unfoldable pub same_row : List Range → List Range → Bool
same_row [] [] = true
same_row [] (r ∷ row) = false
same_row (r ∷ row) [] = false
same_row (low to high ∷ row) (low' to high' ∷ row') = (eqb low low' && eqb high high') && same_row row row'

unfoldable pub same : State → State → Bool
same refused refused = true
same refused (owes row) = false
same (owes row) refused = false
same (owes row) (owes row') = same_row row row'

same_row-is : (a b : List Range) → T (same_row a b) → a ≡ b
unfolding same_row
same_row-is [] [] t = refl
same_row-is [] (r ∷ row) t = absurd t
same_row-is (r ∷ row) [] t = absurd t
same_row-is (low to high ∷ row) (low' to high' ∷ row') t =
    let a = and_yes (eqb low low' && eqb high high') (same_row row row') t in
    let b = and_yes (eqb low low') (eqb high high') a.0 in
    let e : low ≡ low' = eqb→eq low low' b.0 in
    let f : high ≡ high' = eqb→eq high high' b.1 in
    let g : row ≡ row' = same_row-is row row' a.1 in
    cc

same-is : (a b : State) → T (same a b) → a ≡ b
unfolding same
same-is refused refused t = refl
same-is refused (owes row) t = absurd t
same-is (owes row) refused t = absurd t
same-is (owes row) (owes row') t = ap owes (same_row-is row row' t)

-- the tables lead the state n by the byte b to where the test goes
unfoldable pub right : List ℕ → List ℕ → ℕ → ℕ → Bool
right classes words b n =
    let m = looked classes words n b in
    (eqb (m % 6) 0 && leb m 54) && same (state_of m) (next (state_of n) b)

right-means : (classes words : List ℕ) (b n : ℕ) → T (right classes words b n) → Means (looked classes words n b) (next (state_of n) b)
unfolding right
right-means classes words b n t =
    let m = looked classes words n b in
    let a = and_yes (eqb (m % 6) 0 && leb m 54) (same (state_of m) (next (state_of n) b)) t in
    let c = and_yes (eqb (m % 6) 0) (leb m 54) a.0 in
    record {
      numbered = record { whole = eqb→eq (m % 6) 0 c.0; small = leb→le m 54 c.1 };
      means = same-is (state_of m) (next (state_of n) b) a.1;
    }

pub tables : (classes words : List ℕ) → T (below (λ b. below (λ k. right classes words b (6 * k)) 10) 256) → Tables classes words
tables classes words t =
    record {
      leads = λ n b h k.
          right-means classes words b n
          (numbered-at (right classes words b) (below_at (λ b. below (λ k. right classes words b (6 * k)) 10) 256 t b k) n h);
    }

-- the code masks where the rule takes a remainder
masked : (classes words : List ℕ) (n b : ℕ) → looked classes words n b ≡ bit_and (get_or words (bit_and (get_or classes b 0) 15) 0 / 2 ^ n) 63
unfolding looked
masked classes words n b =
    ap (λ (i : ℕ). get_or words i 0 / 2 ^ n % 64) (sym (and_mask (get_or classes b 0) 4))
    ∙ sym (and_mask (get_or words (bit_and (get_or classes b 0) 15) 0 / 2 ^ n) 6)

pub led : (classes words : List ℕ) (n b : ℕ) → Tables classes words → Numbered n → b < 256
    → Means (bit_and (get_or words (bit_and (get_or classes b 0) 15) 0 / 2 ^ n) 63) (next (state_of n) b)
led classes words n b t h k =
    subst (λ (m : ℕ). Means m (next (state_of n) b)) (masked classes words n b) (t.leads n b h k)
