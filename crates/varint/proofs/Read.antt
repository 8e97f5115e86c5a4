-- What the private reads of a number answer: near the end by the groups held, else by the word behind the first byte.
use Rattle.std.proofs.Common.{◌≡◌, ℕ, zero, suc, ◌+◌, ◌-◌, ◌*◌, ◌/◌, ◌%◌, ◌^◌, ◌<◌, ◌≤◌, Bool, true, false, eqb, List, length, get_or, sym, refl, ◌∙◌, le_trans, add-zero, mod-eq_of_lt, mul-le-mul_left, arith, shl_exact, le-ltb, lt-ltb, eqb-true}
use lib.Bits.{bit_and, bit_or, and_mask, or_shifted_r}
use lib.Count.{count_trailing_zeros, trailing_le, trailing_of_zero}
use borrow.Author.Tests.{eqb-false}
use Rattle.refusal.specs.declared.Refusal.{Refusal}
use Rattle.grammar.specs.Outcome.{advanced, got, refused}
use Rattle.grammar.specs.Number.{number}
use Rattle.varint.specs.Holding.{Holding}
use Rattle.varint.specs.Answered.{place, why_not}
use Rattle.varint.specs.Word.{word, bytes_at, payloads, Bytes}
use Rattle.varint.proofs.Groups.{none_left, holding-none, holding-cut, holding-last, holding-more, holding-tenth, holding-over}
use Rattle.varint.proofs.Word.{ends, tops, taken, kept, word_lt, ends-are, kept-is, kept-all, zeros-are, taken-le}
use Rattle.varint.proofs.Ended.{value, holding-ended, holding-endless}
use Rattle.varint.proofs.Payloads.{payloads-lt, payloads-are, length_at}

-- why a number is refused
pub cut-is : (left : ℕ) → left < 10 → why_not left ≡ Refusal.Truncated
cut-is left h = rw (lt-ltb left 10 h)

pub malformed-is : (left : ℕ) → 10 ≤ left → why_not left ≡ Refusal.MalformedVarint
malformed-is left h = rw (le-ltb left 10 h)

-- every byte that is left is read, and none ended the number
pub cut_short : {s : List ℕ} {at left value k : ℕ} → left ≡ length s - at → left < 10 → (0 < left → Holding s (place at) value k) → left ≤ k →
    number 64 s (place at) ≡ refused (why_not left)
cut_short {s} {at} {left} {value} {k} all few g read = rw (cut-is left few) (go left all g read)
  where
    go : (n : ℕ) → n ≡ length s - at → (0 < n → Holding s (place at) value k) → n ≤ k → number 64 s (place at) ≡ refused Refusal.Truncated
    go zero e h r = none_left s (place at) (omega arith)
    go (suc n) e h r = holding-cut (h (omega arith)) (omega arith)

-- the first byte
module _ (s : List ℕ) (at : ℕ) (room : at + 10 ≤ length s) where
  pub one_byte : get_or s at 0 < 128 → number 64 s (place at) ≡ got (get_or s at 0) (advanced (place at) 1)
  one_byte last =
      let first : number 64 s (place at) ≡ got (0 + get_or s (at + 0) 0 % 128 * 2 ^ 0) (advanced (place at) 1) =
      holding-last (holding-none s (place at) (omega arith)) (omega arith) (omega arith) (rw (add-zero at) last) in
      let same : 0 + get_or s at 0 % 128 * 2 ^ 0 ≡ get_or s at 0 = omega arith in
      rw (add-zero at, same) at first

  pub one-held : 128 ≤ get_or s at 0 → Holding s (place at) (bit_and (get_or s at 0) 127) 1
  one-held more =
      let first : Holding s (place at) (0 + get_or s (at + 0) 0 % 128 * 2 ^ 0) 1 =
      holding-more (holding-none s (place at) (omega arith)) (omega arith) (omega arith) (rw (add-zero at) more) in
      let same : 0 + get_or s at 0 % 128 * 2 ^ 0 ≡ bit_and (get_or s at 0) 127 = rw (and_mask (get_or s at 0) 7) (omega arith) in
      rw (add-zero at, same) at first

-- the word of the eight bytes behind the first: its end marks, and how many bits stand below the lowest
abbrev behind : List ℕ → ℕ → List ℕ
behind s at = bytes_at s (at + 1) 8

abbrev marks : ℕ → ℕ
marks x = bit_and (18446744073709551615 - x) 9259542123273814144

abbrev zeros : ℕ → ℕ
zeros x = count_trailing_zeros 64 (marks x)

pub zeros-few : (x : ℕ) → zeros x ≤ 64
zeros-few x = trailing_le 64 (marks x)

-- the tenth byte where the word has no mark, else 0
abbrev tenth : ℕ → ℕ → ℕ
tenth b x = b * (zeros x / 64)

pub tenth-few : (b x : ℕ) → tenth b x ≤ b
tenth-few b x =
    let once : zeros x / 64 ≤ 1 = omega (arith, zeros-few x) in
    le_trans (mul-le-mul_left b once) (omega arith)

module _ {s : List ℕ} {at first left x b : ℕ} (all : left ≡ length s - at) (ten : 10 ≤ left) (g : Holding s (place at) first 1) (is : x ≡ word (behind s at)) (bytes : Bytes (behind s at)) (last : b ≡ get_or s (at + 9) 0) where
  top : (n : ℕ) → n ≡ 8 → bit_and ((2 ^ (8 * n) - 1) - word (behind s at)) (tops n) ≡ ends (behind s at) → marks x ≡ ends (behind s at)
  unfolding tops
  top n e q = rw (e, ← is) at q

  marks-are : marks x ≡ ends (behind s at)
  marks-are = top (length (behind s at)) (length_at s (at + 1) 8) (ends-are bytes)

  taken-few : taken (behind s at) ≤ 8
  taken-few = rw (length_at s (at + 1) 8) at (taken-le bytes)

  word-few : x < 2 ^ 64
  word-few = rw is (go (length (behind s at)) (length_at s (at + 1) 8) (word_lt bytes))
    where
      go : (n : ℕ) → n ≡ 8 → word (behind s at) < 2 ^ (8 * n) → word (behind s at) < 2 ^ 64
      go n e q = rw e at q

  -- no byte of the word ends the number
  endless : marks x ≡ 0 → zeros x ≡ 64
  endless none = rw none (trailing_of_zero 64)

  endless-tenth : marks x ≡ 0 → tenth b x ≡ get_or s (at + 9) 0
  endless-tenth none =
      let once : zeros x / 64 ≡ 1 = omega (arith, endless none) in
      rw (once, last) (omega arith)

  endless-held : marks x ≡ 0 → Holding s (place at) (first + value (behind s at) * 2 ^ 7) 9
  endless-held none = holding-endless 8 g (omega arith) (omega arith) (sym marks-are ∙ none)

  -- one of them does
  ended : (marks x ≡ 0 → ⊥) → zeros x + 1 ≡ 8 * taken (behind s at)
  ended some = rw marks-are (go (length (behind s at)) (length_at s (at + 1) 8) (zeros-are bytes (omega (arith, marks-are))))
    where
      go : (n : ℕ) → n ≡ 8 → count_trailing_zeros (8 * n) (ends (behind s at)) + 1 ≡ 8 * taken (behind s at) → count_trailing_zeros 64 (ends (behind s at)) + 1 ≡ 8 * taken (behind s at)
      go n e q = rw e at q

  ended-tenth : (marks x ≡ 0 → ⊥) → tenth b x ≡ 0
  ended-tenth some =
      let never : zeros x / 64 ≡ 0 = omega (arith, ended some, taken-few) in
      rw never (omega arith)

  ended-number : (marks x ≡ 0 → ⊥) → number 64 s (place at) ≡ got (first + value (behind s at) * 2 ^ 7) (advanced (place at) (1 + taken (behind s at)))
  ended-number some = holding-ended 8 g (omega arith) (omega arith) (omega (arith, marks-are))

  pub answers-over : 1 < tenth b x → number 64 s (place at) ≡ refused (why_not left)
  answers-over over = rw (malformed-is left ten) (go (eqb (marks x) 0) refl)
    where
      go : (t : Bool) → eqb (marks x) 0 ≡ t → number 64 s (place at) ≡ refused Refusal.MalformedVarint
      go true e =
          let none : marks x ≡ 0 = eqb-true _ _ e in
          holding-over (endless-held none) (omega arith) (rw (endless-tenth none) at over)
      go false e = absurd (omega (arith, ended-tenth (eqb-false _ _ e)))

  -- the bytes that the marks less one keep
  module _ {w : ℕ} (wraps : (w + 1) % 2 ^ 64 ≡ marks x) (fits : w < 2 ^ 64) where
    keeps-are : bit_and x w ≡ kept (behind s at)
    keeps-are = go (eqb (marks x) 0) refl
      where
        go : (t : Bool) → eqb (marks x) 0 ≡ t → bit_and x w ≡ kept (behind s at)
        go true e =
            let none : marks x ≡ 0 = eqb-true _ _ e in
            let ones : w ≡ 2 ^ 64 - 1 = omega arith in
            rw (ones, and_mask x 64, mod-eq_of_lt word-few, kept-all (behind s at) (sym marks-are ∙ none)) is
        go false e =
            let some : marks x ≡ 0 → ⊥ = eqb-false _ _ e in
            let less : w ≡ ends (behind s at) - 1 = omega (arith, marks-are) in
            rw (less, is) (kept-is bytes (omega (arith, marks-are)))

    value-is : payloads 8 (bit_and x w) ≡ value (behind s at)
    value-is = rw keeps-are (go (length (behind s at)) (length_at s (at + 1) 8) (payloads-are bytes))
      where
        go : (n : ℕ) → n ≡ 8 → payloads n (kept (behind s at)) ≡ value (behind s at) → payloads 8 (kept (behind s at)) ≡ value (behind s at)
        go n e q = rw e at q

    module _ {size : ℕ} (q : size ≡ payloads 8 (bit_and x w)) (within : tenth b x ≤ 1) where
      joined : bit_or (bit_or first (size * 2 ^ 7 % 2 ^ 64)) (tenth b x * 2 ^ 63 % 2 ^ 64) ≡ first + value (behind s at) * 2 ^ 7 + tenth b x * 2 ^ 63
      joined =
          let few : size < 2 ^ 56 = rw q (payloads-lt 8 (bit_and x w)) in
          rw (
            shl_exact {a = size} 56 7 64 few (omega arith),
            or_shifted_r size 7 first g.fits,
            shl_exact {a = tenth b x} 1 63 64 (omega arith) (omega arith),
            or_shifted_r (tenth b x) 63 (size * 2 ^ 7 + first) (omega (arith, g.fits)),
          )
          (omega (arith, value-is))

      pub answers-within : (zeros x / 8 + 2 ≤ left)
          × (number 64 s (place at) ≡ got (bit_or (bit_or first (size * 2 ^ 7 % 2 ^ 64)) (tenth b x * 2 ^ 63 % 2 ^ 64)) (advanced (place at) (zeros x / 8 + 2)))
      answers-within =
          (omega (arith, zeros-few x), rw joined (go (eqb (marks x) 0) refl))
        where
          go : (t : Bool) → eqb (marks x) 0 ≡ t → number 64 s (place at) ≡ got (first + value (behind s at) * 2 ^ 7 + tenth b x * 2 ^ 63) (advanced (place at) (zeros x / 8 + 2))
          go true e =
              let none : marks x ≡ 0 = eqb-true _ _ e in
              let count : zeros x / 8 + 2 ≡ 10 = omega (arith, endless none) in
              rw (count, endless-tenth none) (holding-tenth (endless-held none) (omega arith) (rw (endless-tenth none) at within))
          go false e =
              let some : marks x ≡ 0 → ⊥ = eqb-false _ _ e in
              let count : zeros x / 8 + 2 ≡ 1 + taken (behind s at) = omega (arith, ended some) in
              let same : first + value (behind s at) * 2 ^ 7 + tenth b x * 2 ^ 63 ≡ first + value (behind s at) * 2 ^ 7 = omega (arith, ended-tenth some) in
              rw (count, same) (ended-number some)
