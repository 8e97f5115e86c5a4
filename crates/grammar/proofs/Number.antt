-- The laws of numbers: the shortest form is read back and is the shortest, a number of fewer bits is a wide one tested, and signed numbers go both ways.
use Rattle.std.proofs.Common.{if◌then◌else◌}
use Prim.Native.Nat.{ℕ, zero, suc, ◌+◌, ◌*◌, ◌/◌, ◌%◌, ◌^◌, ◌≤◌, ◌<◌}
use mathlib.Core.Path.{◌≡◌, refl, sym, ◌∙◌, ap}
use mathlib.Core.Bool.{Bool, true, false}
use mathlib.Core.List.{List, [], ◌++◌, append-nil}
use native.Mathlib.Nat.{pow-succ', le_trans}
use native.Mathlib.Omega.{arith}
use lib.Dec.{ltb, eqb}
use lib.Pow.{pow_mono}
use lib.IntN.{ℤ, pos, negsuc, neg_ℤ}
use borrow.Author.Tests.{lt-ltb, le-ltb, ltb-true, ltb-false, eq-eqb, ne_eqb, eqb-true, eqb-false}
use Rattle.refusal.specs.declared.Refusal.{Refusal}
use Rattle.grammar.specs.declared.Cursor.{Cursor}
use Rattle.grammar.specs.Outcome.{Outcome, got, refused, Parser, after, pure, refuse, ◌>>=◌}
use Rattle.grammar.specs.Combinators.{check}
use Rattle.grammar.specs.Number.{groups, number, unzigzag, signed, zigzag, shortest_in, shortest}
use Rattle.grammar.specs.RoundTrip.{Gives}
use Rattle.grammar.proofs.Outcome.{got-ne-refused}
use Rattle.grammar.proofs.RoundTrip.{itself, gives-pure, gives-bind, gives-last, gives-check-then, gives-byte-then}

-- one group more: a payload byte alone, or a payload and what the other groups give
module _ {s : List ℕ} (n v : ℕ) where
  gives_one : v < 128 → Gives itself s (groups (suc n)) (shortest_in (suc n) v) v
  unfolding groups shortest_in
  gives_one h = rw (lt-ltb v 128 h) (gives-byte-then _ v (rw (lt-ltb v 128 h) (gives-pure v refl)))

  gives_more : 128 ≤ v → Gives itself s (groups n) (shortest_in n (v / 128)) (v / 128) →
      Gives itself s (groups (suc n)) (shortest_in (suc n) v) v
  unfolding groups shortest_in
  gives_more h g =
      rw (le-ltb v 128 h)
      (gives-byte-then _ (v % 128 + 128)
      (rw (le-ltb (v % 128 + 128) 128 (omega arith))
      (gives-last (λ more. (v % 128 + 128) % 128 + 128 * more) (v / 128) g (λ more e. joined more e))))
    where
      joined : (more : ℕ) → more ≡ v / 128 → (v % 128 + 128) % 128 + 128 * more ≡ v
      joined more e = omega arith

  gives-group : (128 ≤ v → Gives itself s (groups n) (shortest_in n (v / 128)) (v / 128)) →
      Gives itself s (groups (suc n)) (shortest_in (suc n) v) v
  gives-group others = go (ltb v 128) refl
    where
      go : (b : Bool) → ltb v 128 ≡ b → Gives itself s (groups (suc n)) (shortest_in (suc n) v) v
      go true e = gives_one (ltb-true _ _ e)
      go false e = let h : 128 ≤ v = ltb-false _ _ e in gives_more h (others h)

-- the shortest form, in as many bytes as the number may take, is read back
gives-groups : {s : List ℕ} (n v : ℕ) → v < 128 ^ suc n → Gives itself s (groups (suc n)) (shortest_in (suc n) v) v
gives-groups zero v h = gives_one 0 v h
gives-groups (suc n) v h = gives-group (suc n) v (λ _. gives-groups n (v / 128) (omega (arith, pow-succ' 128 (suc n))))

pub gives-number : {s : List ℕ} (bits v : ℕ) → v < 2 ^ bits → v < 2 ^ 64 → Gives itself s (number bits) (shortest v) v
unfolding number shortest
gives-number bits v h h64 =
    rw (← append-nil (shortest_in 10 v))
    (gives-bind itself itself (shortest_in 10 v) [] v (gives-groups 9 v (omega arith))
    (λ u e. gives-check-then _ _ (lt-ltb u (2 ^ bits) (rw e h)) (gives-pure u e)))

pub gives-number-then : {B M : Type 0} {mean : B → M} {s : List ℕ} (w : List ℕ) {m : M} (f : ℕ → Parser B) (bits v : ℕ) →
    v < 2 ^ bits → v < 2 ^ 64 → Gives mean s (f v) w m → Gives mean s (number bits >>= f) (shortest v ++ w) m
gives-number-then {mean = mean} w f bits v h h64 g = gives-bind itself mean (shortest v) w v (gives-number bits v h h64) (λ u e. rw e g)

-- a signed number and the unsigned one that means it
pub unzigzag-zigzag : (z : ℤ) → unzigzag (zigzag z) ≡ z
unfolding unzigzag zigzag
unzigzag-zigzag (pos n) = rw (eq-eqb (2 * n % 2) 0 (omega arith)) (ap pos (omega arith))
unzigzag-zigzag (negsuc n) =
    let half : (2 * n + 1 + 1) / 2 ≡ suc n = omega arith in
    rw (ne_eqb ((2 * n + 1) % 2) 0 (omega arith), half)

pub zigzag-unzigzag : (u : ℕ) → zigzag (unzigzag u) ≡ u
unfolding unzigzag zigzag
zigzag-unzigzag u = go (eqb (u % 2) 0) refl
  where
    go : (b : Bool) → eqb (u % 2) 0 ≡ b → zigzag (if b then pos (u / 2) else neg_ℤ (pos ((u + 1) / 2))) ≡ u
    go true e = let h : u % 2 ≡ 0 = eqb-true _ _ e in omega arith
    go false e =
        let h : u % 2 ≡ 0 → ⊥ = eqb-false _ _ e in
        let k : (u + 1) / 2 ≡ suc (u / 2) = omega arith in
        rw k (omega arith)

pub gives-signed : {s : List ℕ} (z : ℤ) → zigzag z < 2 ^ 64 → Gives itself s signed (shortest (zigzag z)) z
unfolding signed
gives-signed z h = gives-last unzigzag (zigzag z) (gives-number 64 (zigzag z) h h) (λ u e. rw e (unzigzag-zigzag z))

-- ── a number of some bits, from the groups and from a wider one ──

abbrev pub tested : ℕ → Outcome ℕ → Outcome ℕ
tested bits (got v next) = if ltb v (2 ^ bits) then got v next else refused Refusal.MalformedVarint
tested bits (refused r) = refused r

pub number-tested : (bits : ℕ) (s : List ℕ) (c : Cursor) → number bits s c ≡ tested bits (groups 10 s c)
unfolding number ◌>>=◌ check pure refuse
number-tested bits s c = go (groups 10 s c)
  where
    within : (b : Bool) (v : ℕ) (next : Cursor) →
        after (check b Refusal.MalformedVarint s next) (λ _ last. pure v s last) ≡ (if b then got v next else refused Refusal.MalformedVarint)
    within true v next = refl
    within false v next = refl

    go : (o : Outcome ℕ) →
        after o (λ v next. after (check (ltb v (2 ^ bits)) Refusal.MalformedVarint s next) (λ _ last. pure v s last)) ≡ tested bits o
    go (got v next) = within (ltb v (2 ^ bits)) v next
    go (refused r) = refl

-- index, small and the full number share this, over the width
pub number-narrow : (bits : ℕ) → bits ≤ 64 → (s : List ℕ) (c : Cursor) → number bits s c ≡ tested bits (number 64 s c)
number-narrow bits le s c = rw (number-tested bits s c, number-tested 64 s c) (go (groups 10 s c))
  where
    wider : (v : ℕ) (next : Cursor) (b : Bool) → ltb v (2 ^ 64) ≡ b →
        tested bits (got v next) ≡ tested bits (if b then got v next else refused Refusal.MalformedVarint)
    wider v next true e = refl
    wider v next false e = rw (le-ltb v (2 ^ bits) (le_trans (pow_mono le) (ltb-false _ _ e)))

    go : (o : Outcome ℕ) → tested bits o ≡ tested bits (tested 64 o)
    go (got v next) = wider v next (ltb v (2 ^ 64)) refl
    go (refused r) = refl

pub number-below : (bits : ℕ) (s : List ℕ) (c : Cursor) (v : ℕ) (next : Cursor) → number bits s c ≡ got v next → v < 2 ^ bits
number-below bits s c v next e = go (groups 10 s c) (sym (number-tested bits s c) ∙ e)
  where
    below : (b : Bool) (u : ℕ) (last : Cursor) → ltb u (2 ^ bits) ≡ b →
        (if b then got u last else refused Refusal.MalformedVarint) ≡ got v next → v < 2 ^ bits
    below true u last t e = let q : u ≡ v = cc in rw q at (ltb-true u (2 ^ bits) t)
    below false u last t e = absurd (got-ne-refused (sym e))

    go : (o : Outcome ℕ) → tested bits o ≡ got v next → v < 2 ^ bits
    go (got u last) e = below (ltb u (2 ^ bits)) u last refl e
    go (refused r) e = absurd (got-ne-refused (sym e))
