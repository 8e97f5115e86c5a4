-- The debug id of a program's tables: a number of 128 bits into which every byte of the table, and then of the chain bytes, is mixed.
use Rattle.std.specs.Prelude.{◌≡◌, ℕ, ◌+◌, ◌*◌, ◌/◌, ◌%◌, ◌^◌, List, [], ◌∷◌, bit_xor, refl}
use Rattle.debug_id.specs.declared.DebugId.{DebugId}

-- where the id starts
abbrev pub basis : ℕ
basis = 0x6c62272e07bb014262b821756295c58d

abbrev pub prime : ℕ
prime = 2 ^ 88 + 315

-- the byte is xored into the low byte
unfoldable pub xored : ℕ → ℕ → ℕ
xored h byte = h / 256 * 256 + bit_xor (h % 256) byte

-- then the product with the prime is taken modulo 2 to the 128
unfoldable pub mixed : ℕ → ℕ → ℕ
mixed h byte = xored h byte * prime % 2 ^ 128

-- every byte of a list, in order
abbrev pub mixed_all : ℕ → List ℕ → ℕ
mixed_all h [] = h
mixed_all h (byte ∷ bytes) = mixed_all (mixed h byte) bytes

-- the table's bytes, then the chain bytes
abbrev pub debug_id : List ℕ → List ℕ → ℕ
debug_id table chains = mixed_all (mixed_all basis table) chains

-- the number that a pair of halves stands for
abbrev pub number_of : DebugId → ℕ
number_of id = id.high * 2 ^ 64 + id.low

-- two examples: of nothing, and of a table of the one byte 97
of-nothing : debug_id [] [] ≡ basis
of-nothing = refl

of-one-byte : debug_id (97 ∷ []) [] ≡ 0xd228cb696f1a8caf78912b704e4a8964
unfolding xored mixed
of-one-byte = refl
