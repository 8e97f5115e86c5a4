-- What the reader answers and leaves: by the definition of the file, for every input.
use Rattle.refusal.specs.declared.Refusal.{Refusal}
use Rattle.std.specs.Prelude.{ℕ, ◌/◌, ◌≡◌, length, replicate, get_or, Result, Ok, Err}
use mathlib.Core.List.{List, [], ◌∷◌, map, foldl}
use Rattle.grammar.specs.Outcome.{Outcome, got, refused}
use Rattle.grammar.specs.Combinators.{Text}
use Rattle.tables.specs.Table.{filled, count_items}
use Rattle.format.specs.Artifact as A
use Rattle.format.specs.File as definition
use Rattle.format.specs.Rows.{tables_of}
use Rattle.reading.specs.Places.{header_of}
use Rattle.format.specs.declared.answer.Artifact.{Artifact}

-- the whole rows of a table, by the words of a row
abbrev pub places : ℕ → List ℕ → ℕ
places words table = length table / words

-- of the thirteen tables, by their numbers in document 01
abbrev pub places_of : List (List ℕ) → A.Places
places_of tables =
    record {
      names = length (get_or tables 0 []);
      constants = places 8 (get_or tables 1 []);
      tokens = places 2 (get_or tables 2 []);
      assigns = places 6 (get_or tables 3 []);
      chains = places 9 (get_or tables 4 []);
      steps = places 11 (get_or tables 5 []);
      switches = places 3 (get_or tables 6 []);
      cases = places 2 (get_or tables 7 []);
      ranges = places 4 (get_or tables 8 []);
      customs = places 3 (get_or tables 9 []);
      inputs = places 5 (get_or tables 10 []);
      functions = places 7 (get_or tables 11 []);
      parameters = length (get_or tables 12 []);
    }

-- what stands outside the tables, and the places used of each
abbrev pub outside : A.Artifact → Artifact
outside a =
    record {
      header = header_of a.header;
      source = a.source.span;
      blob = a.names.blob.span;
      tops = length a.constants;
      main = a.main;
      code = a.code.span;
      positions = a.positions.span;
      used = record {
        names = length a.names.ends;
        constants = foldl (A.behind Text A.levels) 0 a.constants;
        tokens = length a.tokens;
        assigns = length a.assigns;
        chains = length a.chains;
        steps = foldl count_items 0 a.chains;
        switches = length a.switches;
        cases = (foldl A.count_cases (record { cases = 0; ranges = 0 }) a.switches).cases;
        ranges = (foldl A.count_cases (record { cases = 0; ranges = 0 }) a.switches).ranges;
        customs = length a.customs;
        inputs = foldl count_items 0 a.customs;
        functions = length a.functions;
        parameters = foldl count_items 0 a.functions;
      };
    }

abbrev pub answer_of : Outcome A.Artifact → Result Artifact Refusal
answer_of (got a last) = Ok (outside a)
answer_of (refused r) = Err r

-- the thirteen tables: an acceptance leaves the rows in front and zeros behind, a refusal zeros alone
abbrev pub filled_all : List (List ℕ) → List (List ℕ) → List (List ℕ)
filled_all [] words = []
filled_all (t ∷ tables) [] = []
filled_all (t ∷ tables) (ws ∷ words) = filled (length t) ws ∷ filled_all tables words

abbrev pub tables_after : Outcome A.Artifact → List (List ℕ) → List (List ℕ)
tables_after (got a last) tables = filled_all tables (tables_of a)
tables_after (refused r) tables = map (λ t. replicate (length t) 0) tables

-- the answer and the final content of every table are those of the definition
pub record Answered (mask : ℕ) (s : List ℕ) (entry exit : List (List ℕ)) (answer : Result Artifact Refusal) : Type 0 where
  pub result : answer ≡ answer_of (definition.read (places_of entry) mask s)
  pub tables : exit ≡ tables_after (definition.read (places_of entry) mask s) entry
