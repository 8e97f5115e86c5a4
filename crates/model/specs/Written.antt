-- WHAT WRITING ANSWERS AND LEAVES: BadModel with the lowest broken rule, then NoRoom with the bytes needed; else the bytes of what the
-- tables mean stand in front of the output, and the rest of it stays. A refusal leaves the output untouched.
use Rattle.std.specs.Prelude.{ℕ, zero, suc, ◌≡◌, Bool, true, false, List, ◌++◌, length, drop, leb, if◌then◌else◌}
use Rattle.refusal.specs.declared.Refusal.{Refusal}
use Rattle.std.specs.Prelude.{Result, Ok, Err}
use Rattle.written.specs.Meaning.{Meaning}
use Rattle.written.specs.Put.{put}
use Rattle.written.specs.Strip.{strip}
use Rattle.model.specs.Lent.{Lent}
use Rattle.model.specs.Rules.{rule1, rule2, rule3, rule4, rule5, rule6, rule7, rule8, rule9, rule10}
use Rattle.model.specs.Tables.{meaning_of}

-- the way asked: positions kept, or stripped
abbrev pub in_way : Bool → Meaning → Meaning
in_way false m = m
in_way true m = strip m

unfoldable pub bytes_of : Bool → Lent → List ℕ
bytes_of stripped m = put (in_way stripped (meaning_of m))

-- 11. the length to be written, in the way asked, is at most 1,048,576
abbrev pub rule11 : Bool → Lent → Bool
rule11 stripped m = leb (length (bytes_of stripped m)) 1048576

-- the first of ten tests that fails, by its number; 0 where none does
abbrev pub or_else : Bool → ℕ → ℕ → ℕ
or_else holds rule rest = if holds then rest else rule

unfoldable pub first_of_ten : (one two three four five six seven eight nine ten : Bool) → ℕ
first_of_ten one two three four five six seven eight nine ten =
    or_else one 1 (or_else two 2 (or_else three 3 (or_else four 4 (or_else five 5 (or_else six 6 (or_else seven 7 (or_else eight 8 (or_else nine 9 (or_else ten 10 0)))))))))

unfoldable pub broken_of_ten : ℕ → Lent → ℕ
broken_of_ten mask m =
    first_of_ten (rule1 m) (rule2 m) (rule3 m) (rule4 m) (rule5 mask m) (rule6 m) (rule7 m) (rule8 m) (rule9 m) (rule10 m)

abbrev pub else_eleven : ℕ → Bool → ℕ
else_eleven zero holds = or_else holds 11 0
else_eleven (suc rule) holds = suc rule

-- the lowest broken rule
unfoldable pub lowest_broken : ℕ → Bool → Lent → ℕ
lowest_broken mask stripped m = else_eleven (broken_of_ten mask m) (rule11 stripped m)

abbrev pub roomed : List ℕ → List ℕ → Result ℕ Refusal
roomed bytes out = if leb (length bytes) (length out) then Ok (length bytes) else Err (Refusal.NoRoom (length bytes))

abbrev pub in_front : List ℕ → List ℕ → List ℕ
in_front bytes out = if leb (length bytes) (length out) then bytes ++ drop (length bytes) out else out

abbrev pub answered : ℕ → List ℕ → List ℕ → Result ℕ Refusal
answered zero bytes out = roomed bytes out
answered (suc rule) bytes out = Err (Refusal.BadModel (suc rule))

abbrev pub left : ℕ → List ℕ → List ℕ → List ℕ
left zero bytes out = in_front bytes out
left (suc rule) bytes out = out

-- for every tables, spans and counts, mask, way and output
pub record Writes (mask : ℕ) (stripped : Bool) (m : Lent) (entry exit : List ℕ) (answer : Result ℕ Refusal) : Type 0 where
  pub result : answer ≡ answered (lowest_broken mask stripped m) (bytes_of stripped m) entry
  pub output : exit ≡ left (lowest_broken mask stripped m) (bytes_of stripped m) entry
