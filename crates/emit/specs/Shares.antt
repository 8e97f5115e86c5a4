-- Records that own shares of the items' tables: what rule 1 has tested of them, and the items of all, one share behind the other.
use Rattle.std.specs.Prelude.{ℕ, ◌*◌, ◌≤◌, List, length, drop}
use Rattle.tables.specs.Table.{With}
use Rattle.format.specs.declared.records.NameIndex.{NameIndex}
use Rattle.format.specs.declared.records.Step.{Step}
use Rattle.format.specs.declared.records.Chain.{Chain}
use Rattle.format.specs.declared.records.Input.{Input}
use Rattle.format.specs.declared.records.Site.{Site}
use Rattle.format.specs.declared.records.Function.{Function}
use Rattle.format.specs.declared.records.Switch.{Switch}
use Rattle.format.specs.Artifact as A
use Rattle.rows.specs.Back as B
use Rattle.model.specs.Rules.{total}
use Rattle.model.specs.Tables.{shared, shared_cases}

-- the items that the first rows own, by the word that counts them
abbrev pub owned : ℕ → ℕ → ℕ → List ℕ → ℕ
owned count width used t = total count (B.cut width used t)

-- the rows are there, and the items that they own
pub record SharesFit (count width used : ℕ) (t : List ℕ) (item_width : ℕ) (items : List ℕ) : Type 0 where
  pub rows : used * width ≤ length t
  pub shares : owned count width used t * item_width ≤ length items

abbrev pub shares_of : {X Y : Type 0} → ℕ → (X → ℕ) → ℕ → (List ℕ → X) → ℕ → List ℕ → ℕ → (List ℕ → Y) → List ℕ → List (With X Y)
shares_of count counted width of used t item_width item_of items =
    shared counted (B.records_of width of used t) (B.records_of item_width item_of (owned count width used t) items)

-- the chains, sites, functions and switches of tables
module _ (t : List ℕ) (used : ℕ) (items : List ℕ) where
  abbrev pub chains_of : List (With Chain Step)
  chains_of = shares_of 6 (λ c. c.steps) 9 B.chain_of used t 11 B.step_of items

  abbrev pub sites_of : List (With Site Input)
  sites_of = shares_of 2 (λ u. u.inputs) 3 B.site_of used t 5 B.input_of items

  abbrev pub functions_of : List (With Function NameIndex)
  functions_of = shares_of 3 (λ f. f.parameters) 7 B.function_of used t 1 B.parameter_of items

abbrev pub switches_of : List ℕ → ℕ → List ℕ → List ℕ → List A.Cased
switches_of t used cases ranges =
    shared_cases (B.records_of 3 B.switch_of used t) (B.records_of 2 B.case_of (owned 0 3 used t) cases) (B.records_of 4 B.range_of (owned 1 3 used t) ranges)

-- one record with its share, from a place of its items' table on
abbrev pub chain_from : Chain → List ℕ → ℕ → With Chain Step
chain_from c steps from = record { whole = c; items = B.records_of 11 B.step_of c.steps (drop (from * 11) steps) }

abbrev pub site_from : Site → List ℕ → ℕ → With Site Input
site_from u inputs from = record { whole = u; items = B.records_of 5 B.input_of u.inputs (drop (from * 5) inputs) }

abbrev pub function_from : Function → List ℕ → ℕ → With Function NameIndex
function_from f parameters from = record { whole = f; items = B.records_of 1 B.parameter_of f.parameters (drop (from * 1) parameters) }

abbrev pub switch_from : Switch → List ℕ → ℕ → List ℕ → ℕ → A.Cased
switch_from w cases from ranges behind =
    record {
      whole = w;
      cases = B.records_of 2 B.case_of w.cases (drop (from * 2) cases);
      ranges = B.records_of 4 B.range_of w.ranges (drop (behind * 4) ranges);
    }
