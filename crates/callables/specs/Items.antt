-- The literal that an input's index means.
use Rattle.std.specs.Prelude.{ℕ, eqb, if◌then◌else◌, Option, Some, None}

-- FFFFFFFF means none
abbrev pub literal_of : ℕ → Option ℕ
literal_of index = if eqb index 0xFFFFFFFF then None else Some index
