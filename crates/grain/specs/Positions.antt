-- What C is told of a position table and of a debug id.
use Rattle.std.specs.Prelude.{ℕ, ◌/◌, ◌%◌, ◌^◌, List, [], ◌∷◌}
use Rattle.refusal.specs.declared.Row.{Row}
use Rattle.refusal.specs.Numbers.{row_of, row_is}
use Rattle.refusal.specs.declared.Refusal.{Refusal}
use Rattle.std.specs.Prelude.{Result, Ok, Err, Option, Some, None}
use Rattle.position_table.specs.declared.Position.{Position}

-- the two values that are lent
abbrev pub values_of : Row → List ℕ
values_of row = row.first ∷ row.second ∷ []

-- a refusal's row of document 01's table; where there is none, 0 and what was got
abbrev pub checked_row : Result Unit Refusal → Row
checked_row (Ok tt) = row_is 0 0 0
checked_row (Err r) = row_of r

abbrev pub encoded_row : Result ℕ Refusal → Row
encoded_row (Ok size) = row_is 0 size 0
encoded_row (Err r) = row_of r

-- a count: 0 or the refusal's number; the entries, or 0
abbrev pub counted_answer : Result ℕ Refusal → ℕ
counted_answer (Ok n) = 0
counted_answer (Err r) = (row_of r).number

abbrev pub count_or : Result ℕ Refusal → ℕ
count_or (Ok n) = n
count_or (Err r) = 0

-- 1 and the site, or 0 and zeros
abbrev pub found : Option Position → ℕ
found (Some at) = 1
found None = 0

abbrev pub site_values : Option Position → List ℕ
site_values (Some at) = at.line ∷ at.column ∷ []
site_values None = 0 ∷ 0 ∷ []

-- a number of 128 bits in two halves, low first
abbrev pub halves_of : ℕ → List ℕ
halves_of id = id % 2 ^ 64 ∷ id / 2 ^ 64 ∷ []
