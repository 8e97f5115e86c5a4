-- What a read answered and left, lent to the writer with the bytes that it was given.
use Rattle.std.specs.Prelude.{ℕ, true, List, [], get_or}
use Rattle.format.specs.declared.answer.Artifact.{Artifact}
use Rattle.model.specs.Lent.{Lent, lent}

-- of the thirteen tables, the first at 0
abbrev pub lent_of : Artifact → List (List ℕ) → List ℕ → Lent
lent_of outside tables text =
    lent outside true (get_or tables 0 []) (get_or tables 1 []) (get_or tables 2 []) (get_or tables 3 []) (get_or tables 4 []) (get_or tables 5 []) (get_or tables 6 [])
    (get_or tables 7 []) (get_or tables 8 []) (get_or tables 9 []) (get_or tables 10 []) (get_or tables 11 []) (get_or tables 12 []) text
