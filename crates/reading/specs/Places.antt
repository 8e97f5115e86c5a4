-- The words of the places used of each table, and what a table holds in front of them and behind.
use Rattle.std.specs.Prelude.{ℕ, ◌*◌, List, [], ◌∷◌}
use Rattle.std.proofs.lemmas.List.Edits.{sets}
use Rattle.tables.specs.Table.{front}
use Rattle.format.specs.Artifact as A
use Rattle.format.specs.declared.answer.Header.{Header}
use Rattle.format.specs.declared.answer.Used.{Used}

abbrev pub header_of : A.Header → Header
header_of h = record { caps = h.caps; low = h.id_low; high = h.id_high }

-- the words of the places used, by the words of a row
abbrev pub words_of : Used → List ℕ
words_of used =
    used.names * 1
    ∷ used.constants * 8
    ∷ used.tokens * 2
    ∷ used.assigns * 6
    ∷ used.chains * 9
    ∷ used.steps * 11
    ∷ used.switches * 3
    ∷ used.cases * 2
    ∷ used.ranges * 4
    ∷ used.customs * 3
    ∷ used.inputs * 5
    ∷ used.functions * 7
    ∷ used.parameters * 1
    ∷ []

-- of each table the first words, and zeros behind them
abbrev pub front_all : List ℕ → List (List ℕ) → List (List ℕ)
front_all [] tables = []
front_all (n ∷ ns) [] = []
front_all (n ∷ ns) (t ∷ tables) = front n t ∷ front_all ns tables

-- the tables with words stored from their fronts, whatever they held
abbrev pub stored_all : List (List ℕ) → List (List ℕ) → List (List ℕ)
stored_all [] words = []
stored_all (t ∷ tables) [] = []
stored_all (t ∷ tables) (ws ∷ words) = sets t 0 ws ∷ stored_all tables words
