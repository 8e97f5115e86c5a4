-- The syntax of byte sequences of RFC 3629, section 4: each alternative of UTF8-char is a row of one table, in the RFC's order.
use mathlib.Core.List.{List, [], ◌∷◌, ◌++◌, Memᴰ}
use Rattle.std.specs.Prelude.{ℕ, ◌≤◌}

-- the bytes from a first to a last, both among them
infix 70 ◌to◌
pub data Range : Type 0 where
  ◌to◌ : ℕ → ℕ → Range

-- one byte alone
abbrev pub just : ℕ → Range
just b = b to b

abbrev pub UTF8-tail : Range
UTF8-tail = 0x80 to 0xBF

-- UTF8-1 / UTF8-2 / UTF8-3 / UTF8-4
unfoldable pub UTF8-char : List (List Range)
UTF8-char =
    (0x00 to 0x7F ∷ [])
    ∷ (0xC2 to 0xDF ∷ UTF8-tail ∷ [])
    ∷ (just 0xE0 ∷ 0xA0 to 0xBF ∷ UTF8-tail ∷ [])
    ∷ (0xE1 to 0xEC ∷ UTF8-tail ∷ UTF8-tail ∷ [])
    ∷ (just 0xED ∷ 0x80 to 0x9F ∷ UTF8-tail ∷ [])
    ∷ (0xEE to 0xEF ∷ UTF8-tail ∷ UTF8-tail ∷ [])
    ∷ (just 0xF0 ∷ 0x90 to 0xBF ∷ UTF8-tail ∷ UTF8-tail ∷ [])
    ∷ (0xF1 to 0xF3 ∷ UTF8-tail ∷ UTF8-tail ∷ UTF8-tail ∷ [])
    ∷ (just 0xF4 ∷ 0x80 to 0x8F ∷ UTF8-tail ∷ UTF8-tail ∷ [])
    ∷ []

-- bytes that match a row: one in each of its ranges
pub data Matches : List Range → List ℕ → Type 0 where
  done : Matches [] []
  byte : {low high b : ℕ} {row : List Range} {c : List ℕ} → low ≤ b → b ≤ high → Matches row c → Matches (low to high ∷ row) (b ∷ c)

-- UTF8-octets = *( UTF8-char )
pub data UTF8-octets : List ℕ → Type 0 where
  none : UTF8-octets []
  char : {row : List Range} {c s : List ℕ} → Memᴰ row UTF8-char → Matches row c → UTF8-octets s → UTF8-octets (c ++ s)
