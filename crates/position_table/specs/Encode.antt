-- Encoding sites (document 01): those of line 0 are dropped first, and the rest must strictly ascend.
use Rattle.std.specs.Prelude.{ℕ, Result, Ok, Err, ◌-◌, List, [], ◌∷◌, ◌++◌, length, leb, ltb, eqb, if◌then◌else◌}
use Rattle.std.proofs.lemmas.List.Edits.{sets}
use Rattle.refusal.specs.declared.Refusal.{Refusal}
use Rattle.grammar.specs.Number.{shortest}
use Rattle.position_table.specs.declared.Site.{Site}
use Rattle.position_table.specs.Table.{Previous, none, earlier}

-- sites held in three lists: as many as the shortest has
unfoldable pub sites_of : List ℕ → List ℕ → List ℕ → List Site
sites_of [] lines columns = []
sites_of (a ∷ addresses) [] columns = []
sites_of (a ∷ addresses) (l ∷ lines) [] = []
sites_of (a ∷ addresses) (l ∷ lines) (c ∷ columns) =
    record { address = a; line = l; column = c } ∷ sites_of addresses lines columns

-- those of line 0 are dropped
unfoldable pub kept : List Site → List Site
kept [] = []
kept (site ∷ sites) = if eqb site.line 0 then kept sites else site ∷ kept sites

-- they strictly ascend, or the first that does not, with the one before it
pub data Order : Type 0 where
  ascending : Order
  offence : ℕ → ℕ → Order

unfoldable pub order : Previous → List Site → Order
order previous [] = ascending
order none (site ∷ sites) = order (earlier site.address) sites
order (earlier address) (site ∷ sites) =
    if ltb address site.address then order (earlier site.address) sites else offence site.address address

-- the bytes: the count, then each step, line and column, in the shortest form
unfoldable pub entries_of : ℕ → List Site → List ℕ
entries_of address [] = []
entries_of address (site ∷ sites) =
    shortest (site.address - address) ++ (shortest site.line ++ (shortest site.column ++ entries_of site.address sites))

unfoldable pub bytes_of : List Site → List ℕ
bytes_of sites = shortest (length sites) ++ entries_of 0 sites

-- TooLong above 262,144 sites, NotAscending (the first offence), NoRoom with the bytes needed
abbrev pub room_for : ℕ → ℕ → Result ℕ Refusal
room_for needed room = if leb needed room then Ok needed else Err (Refusal.NoRoom needed)

abbrev pub ordered : Order → Result ℕ Refusal → Result ℕ Refusal
ordered ascending answer = answer
ordered (offence address before) answer = Err (Refusal.NotAscending address before)

unfoldable pub encoded : List Site → ℕ → Result ℕ Refusal
encoded sites room =
    if ltb 262144 (length sites) then Err (Refusal.TooLong (length sites))
    else ordered (order none (kept sites)) (room_for (length (bytes_of (kept sites))) room)

-- what the output then holds: the bytes in front and the others as they were, or all as they were
abbrev pub leaving : List ℕ → List ℕ → Result ℕ Refusal → List ℕ
leaving bytes out (Ok size) = sets out 0 bytes
leaving bytes out (Err r) = out

unfoldable pub encoded_bytes : List Site → List ℕ → List ℕ
encoded_bytes sites out = leaving (bytes_of (kept sites)) out (encoded sites (length out))
