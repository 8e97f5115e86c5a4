-- What tables give back: the rows in front of each, cut apart and taken back to their records, and those of the constants to their tree.
use Rattle.std.specs.Prelude.{ℕ, ◌≡◌, length, get_or}
use mathlib.Core.List.{List, [], ◌∷◌, ◌++◌, map, flat_map}
use Rattle.format.specs.declared.records.NameIndex.{NameIndex}
use Rattle.format.specs.declared.records.Step.{Step}
use Rattle.format.specs.declared.records.Case.{Case}
use Rattle.format.specs.declared.records.Range.{Range}
use Rattle.format.specs.declared.records.Input.{Input}
use Rattle.format.specs.Artifact as A
use Rattle.rows.specs.Back as B
use Rattle.rows.specs.Back.{records_of}
use Rattle.rows.specs.Given.{placed_assign, TableGrows}

-- the items of all records, one list behind the other, as their table has them
abbrev pub steps_of : A.Artifact → List Step
steps_of a = flat_map (λ w. w.items) a.chains

abbrev pub cases_of : A.Artifact → List Case
cases_of a = flat_map (λ w. w.cases) a.switches

abbrev pub ranges_of : A.Artifact → List Range
ranges_of a = flat_map (λ w. w.ranges) a.switches

abbrev pub inputs_of : A.Artifact → List Input
inputs_of a = flat_map (λ w. w.items) a.customs

abbrev pub parameters_of : A.Artifact → List NameIndex
parameters_of a = flat_map (λ w. w.items) a.functions

-- the thirteen tables of document 01, of which the first is at 0
pub record TablesGive (a : A.Artifact) (tables : List (List ℕ)) : Type 0 where
  pub names : records_of 1 B.end_of (length a.names.ends) (get_or tables 0 []) ≡ a.names.ends
  pub constants : TableGrows a.constants (get_or tables 1 [])
  pub tokens : records_of 2 B.span_of (length a.tokens) (get_or tables 2 []) ≡ map (λ t. t.span) a.tokens
  pub assigns : records_of 6 B.assign_of (length a.assigns) (get_or tables 3 []) ≡ map placed_assign a.assigns
  pub chains : records_of 9 B.chain_of (length a.chains) (get_or tables 4 []) ≡ map (λ w. w.whole) a.chains
  pub steps : records_of 11 B.step_of (length (steps_of a)) (get_or tables 5 []) ≡ steps_of a
  pub switches : records_of 3 B.switch_of (length a.switches) (get_or tables 6 []) ≡ map (λ w. w.whole) a.switches
  pub cases : records_of 2 B.case_of (length (cases_of a)) (get_or tables 7 []) ≡ cases_of a
  pub ranges : records_of 4 B.range_of (length (ranges_of a)) (get_or tables 8 []) ≡ ranges_of a
  pub customs : records_of 3 B.site_of (length a.customs) (get_or tables 9 []) ≡ map (λ w. w.whole) a.customs
  pub inputs : records_of 5 B.input_of (length (inputs_of a)) (get_or tables 10 []) ≡ inputs_of a
  pub functions : records_of 7 B.function_of (length a.functions) (get_or tables 11 []) ≡ map (λ w. w.whole) a.functions
  pub parameters : records_of 1 B.parameter_of (length (parameters_of a)) (get_or tables 12 []) ≡ parameters_of a

-- each table begins with its words
abbrev pub Begin : List (List ℕ) → List (List ℕ) → Type 0
Begin tables [] = Unit
Begin [] (ws ∷ words) = ⊥
Begin (t ∷ tables) (ws ∷ words) = ((rest : List ℕ) × (t ≡ ws ++ rest)) × Begin tables words
