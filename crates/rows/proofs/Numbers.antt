-- A word and what it holds.
use Rattle.std.specs.Prelude.{Option, Some, None}
use Prim.Native.Nat.{ℕ, ◌%◌, ◌^◌}
use mathlib.Core.Path.{◌≡◌, refl}
use native.Mathlib.Nat.{mod-eq_of_lt}
use native.Mathlib.Omega.{arith}
use borrow.Author.Tests.{ne_eqb}
use Rattle.format.specs.declared.records.Position.{Position}
use Rattle.format.specs.declared.records.Chunk.{Chunk}
use Rattle.format.specs.Rows.{line, column}
use Rattle.rows.specs.Back.{position, chunk_of}
use Rattle.rows.specs.Fits.{FitsBits, FitsPosition, FitsChunk}

-- ── a number, a position and a chunk that fit stand in their words ──

-- of any width
pub bits_back : {bits n : ℕ} → FitsBits bits n → n % 2 ^ bits ≡ n
bits_back fits = mod-eq_of_lt fits.below

pub position-back : (p : Option Position) → FitsPosition p → position (line p) (column p) ≡ p
position-back None fits = refl
position-back (Some at) fits = rw (bits_back fits.1.0, bits_back fits.1.1, ne_eqb at.line 0 (omega (arith, fits.0)))

pub chunk_back : (c : Chunk) → FitsChunk c → chunk_of c.entry c.end c.slots ≡ c
chunk_back c fits = rw (bits_back fits.entry, bits_back fits.end, bits_back fits.slots)
