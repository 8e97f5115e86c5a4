-- Runs of bytes, when they are taken; and a number of one byte.
use Prim.Native.Nat.{ℕ, ◌+◌, ◌*◌, ◌%◌, ◌^◌, ◌≤◌, ◌<◌}
use mathlib.Core.Path.{◌≡◌}
use mathlib.Core.List.{List}
use native.Mathlib.Nat.{add_assoc, lt_of_lt_of_le}
use native.Mathlib.Omega.{arith}
use lib.ListN.{length, get_or}
use lib.Bits.{bit_or}
use lib.Pow.{pow_mono}
use borrow.Author.Tests.{le-leb, lt-leb, lt-ltb}
use Rattle.refusal.specs.declared.Refusal.{Refusal}
use Rattle.grammar.specs.declared.Cursor.{Cursor}
use Rattle.grammar.specs.Outcome.{advanced, got, refused, pure, ◌>>=◌}
use Rattle.grammar.specs.Combinators.{taking, byte, text_at, text}
use Rattle.grammar.specs.Number.{number}
use Rattle.grammar.proofs.Number.{number-narrow}
use Rattle.utf8.proofs.Ascii.{or_left, or_right}
use Rattle.varint.proofs.Groups.{holding-none, holding-last}
use Rattle.format.specs.File.{placed, position}

module _ (n : ℕ) (s : List ℕ) (c : Cursor) where
  pub too_few : length s < c.at + n → text n s c ≡ refused Refusal.Truncated
  unfolding text taking
  too_few h = rw (lt-leb (c.at + n) (length s) h)

  pub enough-there : c.at + n ≤ length s → text n s c ≡ got (text_at s (record { start = c.at; size = n })) (advanced c n)
  unfolding text taking
  enough-there h = rw (le-leb (c.at + n) (length s) h)

-- and of one byte
pub no_byte : (s : List ℕ) (c : Cursor) → length s ≤ c.at → byte s c ≡ refused Refusal.Truncated
unfolding byte taking
no_byte s c h = rw (lt-leb (c.at + 1) (length s) (omega arith))

pub byte-there : (s : List ℕ) (c : Cursor) → c.at < length s → byte s c ≡ got (get_or s c.at 0) (advanced c 1)
unfolding byte taking
byte-there s c h = rw (le-leb (c.at + 1) (length s) (omega arith))

-- a number of any width that is one byte
pub one_byte : (bits : ℕ) → 7 ≤ bits → bits ≤ 64 → (s : List ℕ) (c : Cursor) → c.at < length s → get_or s c.at 0 < 128 →
    number bits s c ≡ got (get_or s c.at 0) (advanced c 1)
one_byte bits enough fits s c h low =
    rw (number-narrow bits fits s c, holding-last (holding-none s c h) (omega arith) (omega arith) (rw first low), same, lt-ltb (get_or s c.at 0) (2 ^ bits) below)
  where
    first : c.at + 0 ≡ c.at
    first = omega arith

    same : 0 + get_or s (c.at + 0) 0 % 128 * 2 ^ (7 * 0) ≡ get_or s c.at 0
    same = rw first (omega arith)

    below : get_or s c.at 0 < 2 ^ bits
    below = lt_of_lt_of_le low (pow_mono {i = 7} {j = bits} enough)

-- a position of two bytes, which are or-ed for one test
pub two_bytes : (s : List ℕ) (c : Cursor) → c.at + 1 < length s → bit_or (get_or s c.at 0) (get_or s (c.at + 1) 0) < 128 →
    position s c ≡ got (placed (get_or s c.at 0) (get_or s (c.at + 1) 0)) (advanced c 2)
unfolding position ◌>>=◌ pure
two_bytes s c h low =
    rw (
      one_byte 16 (omega arith) (omega arith) s c (omega arith) (omega (arith, or_left (get_or s c.at 0) (get_or s (c.at + 1) 0))),
      one_byte 16 (omega arith) (omega arith) s (advanced c 1) h (omega (arith, or_right (get_or s c.at 0) (get_or s (c.at + 1) 0))),
      add_assoc c.at 1 1,
    )
