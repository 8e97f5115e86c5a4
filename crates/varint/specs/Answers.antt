-- What each answer of a read says, as an outcome of the grammar; and what put answers and leaves.
use Rattle.std.specs.Prelude.{ℕ, List, length, Result, Ok, Err, nat_le, if◌then◌else◌}
use Rattle.std.proofs.lemmas.List.Edits.{sets}
use Rattle.refusal.specs.declared.Refusal.{Refusal}
use Rattle.grammar.specs.Number.{shortest}

-- put into so many bytes: the shortest form where it fits, else NoRoom with the bytes needed
abbrev pub written_is : ℕ → ℕ → Result ℕ Refusal
written_is room value =
    if nat_le (length (shortest value)) room then Ok (length (shortest value))
    else Err (Refusal.NoRoom (length (shortest value)))

-- and what the bytes then are: the shortest form in front and the others as they were, or all as they were
abbrev pub put_bytes : List ℕ → ℕ → List ℕ
put_bytes out value = if nat_le (length (shortest value)) (length out) then sets out 0 (shortest value) else out
