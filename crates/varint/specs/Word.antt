-- Bytes as one word, low byte first, and the number that their payloads make.
use Rattle.std.specs.Prelude.{ℕ, zero, suc, ◌+◌, ◌*◌, ◌/◌, ◌%◌, ◌^◌, ◌<◌, List, [], ◌∷◌, slice_index}

-- n bytes from a place on
unfoldable pub bytes_at : List ℕ → ℕ → ℕ → List ℕ
bytes_at s at zero = []
bytes_at s at (suc n) = slice_index s at ∷ bytes_at s (at + 1) n

-- the bytes as one number
unfoldable pub word : List ℕ → ℕ
word [] = 0
word (b ∷ bs) = word bs * 2 ^ 8 + b

-- the low seven bits of each of n bytes of a word, side by side
unfoldable pub payloads : ℕ → ℕ → ℕ
payloads zero x = 0
payloads (suc n) x = x % 128 + 128 * payloads n (x / 256)

-- each is a byte
pub data Bytes : List ℕ → Type 0 where
  none : Bytes []
  more : {b : ℕ} {bs : List ℕ} → b < 256 → Bytes bs → Bytes (b ∷ bs)
