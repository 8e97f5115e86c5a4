-- Every record of a file is given back by its row, and the tree of its constants by their rows.
use Rattle.std.specs.Prelude.{ℕ, ◌^◌, ◌<◌, ◌≡◌, length, get_or}
use mathlib.Core.List.{List, [], ◌++◌, map, foldl}
use Rattle.grammar.specs.declared.Span.{Span}
use Rattle.grammar.specs.Combinators.{Text, Each}
use Rattle.tables.specs.Table.{rows}
use Rattle.format.specs.declared.records.Assign.{Assign}
use Rattle.format.specs.Artifact as A
use Rattle.format.specs.Rows as R
use Rattle.rows.specs.Back as B
use Rattle.rows.specs.Tree as T
use Rattle.rows.specs.Fits.{Throughout, ThroughoutCases}

-- a slice of u8 holds bytes
abbrev pub Bytes : List ℕ → Type 0
Bytes s = (i : ℕ) → get_or s i 0 < 2 ^ 8

-- an assign record with its texts' places, as the code has it
abbrev pub placed_assign : A.Assign Text → Assign
placed_assign a =
    record { op_assign = a.op_assign.span; op_assign_name = a.op_assign_name; op = a.op.span; op_name = a.op_name }

abbrev pub Back : {X : Type 0} → (X → List ℕ) → (List ℕ → X) → X → Type 0
Back row of x = of (row x) ≡ x

-- top constants with their texts' places; their rows have no key
abbrev pub placed_constants : List (A.Constant Text A.levels) → List (Span × A.Constant Span A.levels)
placed_constants cs = map (λ c. (R.nowhere, T.over_texts (λ t. t.span) A.levels c)) cs

-- a table whose used rows give these constants back, to the last of them
abbrev pub TableGrows : List (A.Constant Text A.levels) → List ℕ → Type 0
TableGrows cs table =
    T.grow A.levels (length cs) (B.records_of 8 B.keyed_of (foldl (A.behind Text A.levels) 0 cs) table)
    ≡ record { trees = placed_constants cs; rest = [] }

pub record GivenBack (a : A.Artifact) : Type 0 where
  pub names : Each (Back R.end_row B.end_of) a.names.ends
  pub constants : (behind : List ℕ) → TableGrows a.constants (rows (R.constant_rows A.levels R.nowhere) a.constants ++ behind)
  pub tokens : Each (λ t. B.span_of (R.token_row t) ≡ t.span) a.tokens
  pub assigns : Each (λ x. B.assign_of (R.assign_row x) ≡ placed_assign x) a.assigns
  pub chains : Each (Throughout (Back R.chain_row B.chain_of) (Back R.step_row B.step_of)) a.chains
  pub switches : Each (ThroughoutCases (Back R.switch_row B.switch_of) (Back R.case_row B.case_of) (Back R.range_row B.range_of)) a.switches
  pub customs : Each (Throughout (Back R.site_row B.site_of) (Back R.input_row B.input_of)) a.customs
  pub functions : Each (Throughout (Back R.function_row B.function_of) (Back R.parameter_row B.parameter_of)) a.functions
