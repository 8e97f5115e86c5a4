-- The groups of a number: how seven bits are joined to those read before, and what the definition says while k groups are held.
use Rattle.std.proofs.Common.{◌≡◌, ℕ, suc, ◌+◌, ◌-◌, ◌*◌, ◌%◌, ◌^◌, ◌<◌, ◌≤◌, Bool, true, false, ltb, List, length, get_or, refl, ap, ◌∙◌, lt_of_lt_of_le, add-zero, add_assoc, mul-le-mul_right, add_comm, arith, pow_mono, pow-add, shl_exact, ltb-false, ltb-true, le-ltb, lt-ltb, le-leb}
use lib.Bits.{bit_and, bit_or, and_mask, or_shifted_r}
use borrow.Author.Tests.{lt-leb}
use Rattle.refusal.specs.declared.Refusal.{Refusal}
use Rattle.grammar.specs.declared.Cursor.{Cursor}
use Rattle.grammar.specs.Outcome.{advanced, Outcome, got, refused, after, pure, refuse, ◌>>=◌}
use Rattle.grammar.specs.Combinators.{taking, byte}
use Rattle.grammar.specs.Number.{groups, number}
use Rattle.grammar.proofs.Number.{tested, number-tested}
use Rattle.varint.specs.Holding.{held, Holding}

-- a byte's payload, shifted behind the k groups held, or'ed in
pub joined_is : (value byte k : ℕ) → k < 9 → value < 2 ^ (7 * k) →
    bit_or value (bit_and byte 127 * 2 ^ (7 * k) % 2 ^ 64) ≡ value + byte % 128 * 2 ^ (7 * k)
joined_is value byte k h fits =
    rw (and_mask byte 7, shl_exact {a = byte % 128} 7 (7 * k) 64 (omega arith) (omega arith), or_shifted_r (byte % 128) (7 * k) value fits)
    (add_comm _ _)

pub seven-more : (k : ℕ) → 2 ^ (7 * (k + 1)) ≡ 128 * 2 ^ (7 * k)
seven-more k = ap (λ (n : ℕ). 2 ^ n) (omega arith) ∙ pow-add 2 7 (7 * k)

-- one group joined is still below the next power
pub joined-fits : (value b k : ℕ) → value < 2 ^ (7 * k) → value + b % 128 * 2 ^ (7 * k) < 2 ^ (7 * (k + 1))
joined-fits value b k h = rw (seven-more k) (omega (arith, group-fits))
  where
    group-fits : b % 128 * 2 ^ (7 * k) ≤ 127 * 2 ^ (7 * k)
    group-fits = mul-le-mul_right (2 ^ (7 * k)) (omega arith)

-- what a group more does: it continues, it is the last, or there is none
module _ (s : List ℕ) (c : Cursor) (k n : ℕ) where
  abbrev at-k : ℕ
  at-k = get_or s (c.at + k) 0

  held_more : (value : ℕ) → c.at + k < length s → 128 ≤ at-k →
      held value k (groups (suc n) s (advanced c k)) ≡ held (value + at-k % 128 * 2 ^ (7 * k)) (k + 1) (groups n s (advanced c (k + 1)))
  unfolding groups byte taking ◌>>=◌ pure
  held_more value h cont =
      rw (le-leb (c.at + k + 1) (length s) (omega arith), le-ltb at-k 128 cont, add_assoc c.at k 1) (go (groups n s (advanced c (k + 1))))
    where
      go : (o : Outcome ℕ) →
          held value k (after o (λ more next. got (at-k % 128 + 128 * more) next)) ≡ held (value + at-k % 128 * 2 ^ (7 * k)) (k + 1) o
      go (got more next) = ap (λ (v : ℕ). got v next) (rw (seven-more k) (omega arith))
      go (refused r) = refl

  held-last : (value : ℕ) → c.at + k < length s → at-k < 128 →
      held value k (groups (suc n) s (advanced c k)) ≡ got (value + at-k % 128 * 2 ^ (7 * k)) (advanced c (k + 1))
  unfolding groups byte taking ◌>>=◌ pure
  held-last value h last =
      let same : at-k % 128 ≡ at-k = omega arith in
      rw (le-leb (c.at + k + 1) (length s) (omega arith), lt-ltb at-k 128 last, add_assoc c.at k 1, same)

  held_none : (value : ℕ) → length s ≤ c.at + k → held value k (groups (suc n) s (advanced c k)) ≡ refused Refusal.Truncated
  unfolding groups byte taking ◌>>=◌
  held_none value h = rw (lt-leb (c.at + k + 1) (length s) (omega arith))

pub holding-none : (s : List ℕ) (c : Cursor) → c.at < length s → Holding s c 0 0
holding-none s c h = record { few = omega arith; inside = omega arith; fits = omega arith; rest = rw (add-zero c.at) (go (groups 10 s c)) }
  where
    go : (o : Outcome ℕ) → o ≡ held 0 0 o
    go (got v next) = ap (λ (n : ℕ). got n next) (omega arith)
    go (refused r) = refl

-- past the end before any group
pub none_left : (s : List ℕ) (c : Cursor) → length s ≤ c.at → number 64 s c ≡ refused Refusal.Truncated
unfolding groups byte taking ◌>>=◌
none_left s c h = rw (number-tested 64 s c, lt-leb (c.at + 1) (length s) (omega arith))

module _ {s : List ℕ} {c : Cursor} {value k : ℕ} (g : Holding s c value k) where
  -- what the rest comes to is what the number comes to
  number-from : {o : Outcome ℕ} → held value k (groups (suc (9 - k)) s (advanced c k)) ≡ o → number 64 s c ≡ tested 64 o
  number-from e =
      let n : 10 - k ≡ suc (9 - k) = omega (arith, g.few) in
      rw (number-tested 64 s c, g.rest, n, e)

  pub holding-cut : length s ≤ c.at + k → number 64 s c ≡ refused Refusal.Truncated
  holding-cut h = number-from (held_none s c k (9 - k) value h)

  pub holding-last : k < 9 → c.at + k < length s → get_or s (c.at + k) 0 < 128 →
      number 64 s c ≡ got (value + get_or s (c.at + k) 0 % 128 * 2 ^ (7 * k)) (advanced c (k + 1))
  holding-last few h last = rw (number-from (held-last s c k (9 - k) value h last), lt-ltb _ (2 ^ 64) below)
    where
      below : value + get_or s (c.at + k) 0 % 128 * 2 ^ (7 * k) < 2 ^ 64
      below = lt_of_lt_of_le (joined-fits value _ k g.fits) (pow_mono {i = 7 * (k + 1)} {j = 64} (omega arith))

  pub holding-more : k < 9 → c.at + k < length s → 128 ≤ get_or s (c.at + k) 0 →
      Holding s c (value + get_or s (c.at + k) 0 % 128 * 2 ^ (7 * k)) (k + 1)
  holding-more few h more =
      record { few = omega arith; inside = omega arith; fits = joined-fits value _ k g.fits; rest = next }
    where
      next : groups 10 s c ≡ held (value + get_or s (c.at + k) 0 % 128 * 2 ^ (7 * k)) (k + 1) (groups (10 - (k + 1)) s (advanced c (k + 1)))
      next =
          let n : 10 - k ≡ suc (9 - k) = omega arith in
          let n' : 10 - (k + 1) ≡ 9 - k = omega arith in
          rw (g.rest, n, n') (held_more s c k (9 - k) value h more)

-- the tenth group has room for one bit
module _ {s : List ℕ} {c : Cursor} {value : ℕ} (g : Holding s c value 9) (h : c.at + 9 < length s) where
  pub holding-tenth : get_or s (c.at + 9) 0 ≤ 1 → number 64 s c ≡ got (value + get_or s (c.at + 9) 0 * 2 ^ 63) (advanced c 10)
  holding-tenth fits =
      let same : get_or s (c.at + 9) 0 % 128 ≡ get_or s (c.at + 9) 0 = omega arith in
      let below : value + get_or s (c.at + 9) 0 * 2 ^ 63 < 2 ^ 64 = omega (arith, g.fits) in
      rw (number-from g (held-last s c 9 0 value h (omega arith)), same, lt-ltb _ (2 ^ 64) below)

  pub holding-over : 1 < get_or s (c.at + 9) 0 → number 64 s c ≡ refused Refusal.MalformedVarint
  unfolding groups refuse
  holding-over over = go (ltb (get_or s (c.at + 9) 0) 128) refl
    where
      go : (t : Bool) → ltb (get_or s (c.at + 9) 0) 128 ≡ t → number 64 s c ≡ refused Refusal.MalformedVarint
      go true e =
          let l : get_or s (c.at + 9) 0 < 128 = ltb-true _ _ e in
          let above : 2 ^ 64 ≤ value + get_or s (c.at + 9) 0 % 128 * 2 ^ 63 = omega arith in
          rw (number-from g (held-last s c 9 0 value h l), le-ltb _ (2 ^ 64) above)
      go false e = number-from g (held_more s c 9 0 value h (ltb-false _ _ e))
