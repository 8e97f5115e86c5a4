-- Splitting a number into groups: what is left of the shortest form once k groups are split off, for `size` and for `put_at`.
use Rattle.std.proofs.Common.{◌≡◌, ℕ, zero, suc, ◌+◌, ◌-◌, ◌*◌, ◌/◌, ◌%◌, ◌^◌, ◌<◌, ◌≤◌, List, [], ◌∷◌, length, set, sym, refl, ap, ◌∙◌, add-zero, add_assoc, add-one, arith, length-set, pow_mono, pow-add, le-ltb, lt-ltb}
use native.Mathlib.Nat.{pow-succ', one-le-pow}
use lib.Seq.{sets}
use lib.Bits.{bit_and, bit_or, and_mask, or_shifted_r, or_add_and}
use lib.Count.{count_leading_zeros, leading_top}
use Rattle.grammar.specs.Number.{shortest, shortest_in}

-- one group more of the shortest form, or the last
pub more-group : (n v : ℕ) → 128 ≤ v → shortest_in (suc n) v ≡ (v % 128 + 128) ∷ shortest_in n (v / 128)
unfolding shortest_in
more-group n v h = rw (le-ltb v 128 h)

pub last-group : (n v : ℕ) → v < 128 → shortest_in (suc n) v ≡ v ∷ []
unfolding shortest_in
last-group n v h = rw (lt-ltb v 128 h)

-- k groups of the value are split off, and a number is left
pub record Split (value k left : ℕ) : Type 0 where
  pub few : k ≤ 9
  pub below : left < 128 ^ (10 - k)
  pub long : length (shortest value) ≡ k + length (shortest_in (10 - k) left)

pub split-none : (value : ℕ) → value < 2 ^ 64 → Split value 0 value
unfolding shortest
split-none value h = record { few = omega arith; below = omega arith; long = omega arith }

module _ {value k left : ℕ} (g : Split value k left) where
  groups-left : 10 - k ≡ suc (9 - k)
  groups-left = omega (arith, g.few)

  pub split-last : left < 128 → shortest_in (10 - k) left ≡ left ∷ []
  split-last h = rw groups-left (last-group (9 - k) left h)

  pub split-size : left < 128 → length (shortest value) ≡ k + 1
  split-size h = g.long ∙ ap (λ (l : List ℕ). k + length l) (split-last h)

  module _ (h : 128 ≤ left) where
    -- a number above one group has a second group to go into
    not_last : k < 9
    not_last = go (9 - k) refl
      where
        go : (n : ℕ) → 9 - k ≡ n → k < 9
        go zero e = let b : left < 128 = rw (groups-left, e) at g.below in absurd (omega arith)
        go (suc n) e = omega arith

    next-left : 10 - (k + 1) ≡ 9 - k
    next-left = omega (arith, not_last)

    pub split-group : shortest_in (10 - k) left ≡ (left % 128 + 128) ∷ shortest_in (10 - (k + 1)) (left / 128)
    split-group = rw (groups-left, next-left) (more-group (9 - k) left h)

    pub split-more : Split value (k + 1) (left / 128)
    split-more =
        record {
          few = omega (arith, not_last);
          below = rw next-left fits;
          long = g.long ∙ ap (λ (l : List ℕ). k + length l) split-group ∙ omega arith;
        }
      where
        fits : left / 128 < 128 ^ (9 - k)
        fits = let b : left < 128 ^ suc (9 - k) = rw groups-left at g.below in omega (arith, pow-succ' 128 (9 - k))

-- a group with the bit that says that another follows
pub continuing : (left : ℕ) → bit_or (bit_and left 127) 128 ≡ left % 128 + 128
continuing left = rw (and_mask left 7, or_shifted_r 1 7 (left % 128) (omega arith)) (omega arith)

-- the first k groups stand in `out`, and what is left to store makes the whole
pub record Putting (out₀ : List ℕ) (at value : ℕ) (out : List ℕ) (left k : ℕ) : Type 0 where
  pub split : Split value k left
  pub room : at + length (shortest value) ≤ length out
  pub same : length out ≡ length out₀
  pub goes : sets out₀ at (shortest value) ≡ sets out (at + k) (shortest_in (10 - k) left)

pub putting-none : (out : List ℕ) (at value : ℕ) → value < 2 ^ 64 → at + length (shortest value) ≤ length out → Putting out at value out value 0
unfolding shortest
putting-none out at value h room = record { split = split-none value h; room = room; same = refl; goes = rw (add-zero at) }

module _ {out₀ : List ℕ} {at value : ℕ} {out : List ℕ} {left k : ℕ} (g : Putting out₀ at value out left k) where
  module _ (h : 128 ≤ left) where
    pub inside-more : at + k < length out
    inside-more = omega (arith, g.room, g.split.long, ap length (split-group g.split h))

    pub putting-more : Putting out₀ at value (set out (at + k) (bit_or (bit_and left 127) 128)) (left / 128) (k + 1)
    putting-more =
        record {
          split = split-more g.split h;
          room = simp length-set g.room;
          same = simp length-set g.same;
          goes = rw (continuing left, ← add_assoc at k 1, add-one (at + k)) (g.goes ∙ ap (sets out (at + k)) (split-group g.split h));
        }

  module _ (h : left < 128) where
    pub inside-last : at + k < length out
    inside-last = omega (arith, g.room, split-size g.split h)

    pub put-size : at + k + 1 ≡ at + length (shortest value)
    put-size = omega (arith, split-size g.split h)

    pub put-bytes : set out (at + k) left ≡ sets out₀ at (shortest value)
    put-bytes = sym (g.goes ∙ ap (sets out (at + k)) (split-last g.split h))

-- ---- how many groups, from the number of bits

one-group : (n v : ℕ) → v < 128 → length (shortest_in (suc n) v) ≡ 1
one-group n v h = ap length (last-group n v h)

-- between two powers of 128
between : (k n v : ℕ) → 128 ^ suc k ≤ v → v < 128 ^ suc (suc k) → suc k < n → length (shortest_in n v) ≡ suc (suc k)
between k zero v low high h = absurd (omega arith)
between zero (suc zero) v low high h = absurd (omega arith)
between zero (suc (suc n)) v low high h = ap length (more-group (suc n) v (omega arith)) ∙ ap suc (one-group n (v / 128) (omega arith))
between (suc k) (suc n) v low high h =
    let low' : 128 ^ suc k ≤ v / 128 = omega (arith, pow-succ' 128 (suc k)) in
    let high' : v / 128 < 128 ^ suc (suc k) = omega (arith, pow-succ' 128 (suc (suc k))) in
    let some : 128 ≤ v = omega (arith, pow-succ' 128 (suc k), one-le-pow (suc k) 128 (omega arith)) in
    ap length (more-group n v some) ∙ ap suc (between k n (v / 128) low' high' (omega arith))

seven-bits : (k : ℕ) → 2 ^ (7 * k) ≡ 128 ^ k
seven-bits zero = refl
seven-bits (suc k) = ap (λ (n : ℕ). 2 ^ n) (omega arith) ∙ pow-add 2 7 (7 * k) ∙ ap (λ (n : ℕ). 128 * n) (seven-bits k) ∙ sym (pow-succ' 128 k)

-- the half of a number has m bits, and with its lowest bit set the number has one more
module _ (v m : ℕ) (few : m ≤ 64) (below : v / 2 < 2 ^ m) (above : 2 ^ m ≤ 2 * (v / 2) + 1) where
  bits-groups : length (shortest v) ≡ (m + 7) / 7
  unfolding shortest
  bits-groups = go (m / 7) refl
    where
      go : (k : ℕ) → m / 7 ≡ k → length (shortest_in 10 v) ≡ (m + 7) / 7
      go zero e =
          let at_most : 2 ^ m ≤ 2 ^ 6 = pow_mono {j = 6} (omega arith) in
          one-group 9 v (omega arith) ∙ omega arith
      go (suc k) e =
          let even : 2 ^ m ≡ 2 * 2 ^ (m - 1) = ap (λ (n : ℕ). 2 ^ n) (omega arith) ∙ pow-succ' 2 (m - 1) in
          let from : 2 ^ (7 * suc k) ≤ 2 ^ m = pow_mono {i = 7 * suc k} {j = m} (omega arith) in
          let to : 2 ^ (m + 1) ≤ 2 ^ (7 * suc (suc k)) = pow_mono {i = m + 1} {j = 7 * suc (suc k)} (omega arith) in
          let twice : 2 ^ (m + 1) ≡ 2 * 2 ^ m = ap (λ (n : ℕ). 2 ^ n) (omega arith) ∙ pow-succ' 2 m in
          between k 10 v (omega (arith, seven-bits (suc k))) (omega (arith, seven-bits (suc (suc k)))) (omega arith) ∙ omega arith

pub lowest_set : (v : ℕ) → bit_or v 1 ≡ 2 * (v / 2) + 1
lowest_set v = omega (arith, or_add_and v 1, and_mask v 1)

-- with its lowest bit set a number has a highest bit
module _ (v : ℕ) (h : v < 2 ^ 64) where
  highest : (j : ℕ) × (count_leading_zeros 64 (bit_or v 1) + suc j ≡ 64) × (2 ^ j ≤ bit_or v 1) × (bit_or v 1 < 2 ^ suc j)
  highest = leading_top 64 (bit_or v 1) (omega (arith, lowest_set v)) (omega (arith, lowest_set v))

  pub zeros-few : count_leading_zeros 64 (bit_or v 1) ≤ 63
  zeros-few = omega (arith, highest.1)

  pub top-groups : length (shortest v) ≡ (63 - count_leading_zeros 64 (bit_or v 1) + 7) / 7
  top-groups =
      let below : v / 2 < 2 ^ highest.0 = omega (arith, lowest_set v, highest.3, pow-succ' 2 highest.0) in
      let above : 2 ^ highest.0 ≤ 2 * (v / 2) + 1 = omega (arith, lowest_set v, highest.2) in
      bits-groups v highest.0 (omega (arith, highest.1)) below above ∙ omega (arith, highest.1)
