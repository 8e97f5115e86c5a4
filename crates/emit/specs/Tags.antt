-- Constants by their tag: which are function pointers, and which own items.
use Rattle.std.specs.Prelude.{ℕ, Bool, ◌||◌, eqb, ltb}

-- every tag behind the others means a function pointer
abbrev pub is_pointer : ℕ → Bool
is_pointer tag = ltb 0x0B tag

abbrev pub is_list : ℕ → Bool
is_list tag = is_pointer tag || (eqb tag 0x07 || eqb tag 0x08)
