-- WHAT TABLES MEAN: the records of the rows that are used, each with its share of its items' table, and the bytes of their spans.
-- What a tag does not use is forgotten by the way back from a row (rows/specs/Back.antt).
use Rattle.std.specs.Prelude.{ℕ, List, [], ◌∷◌, map, take, drop}
use Rattle.tables.specs.Table.{With}
use Rattle.format.specs.declared.records.Assign.{Assign}
use Rattle.format.specs.declared.records.Switch.{Switch}
use Rattle.format.specs.declared.records.Case.{Case}
use Rattle.format.specs.declared.records.Range.{Range}
use Rattle.format.specs.Artifact as A
use Rattle.rows.specs.Back as B
use Rattle.rows.specs.Tree.{grow, over_texts}
use Rattle.written.specs.Meaning.{Meaning}
use Rattle.model.specs.Lent.{Lent, end_rows, constant_rows, token_rows, assign_rows, chain_rows, step_rows, switch_rows, case_rows, range_rows, custom_rows, input_rows, function_rows, parameter_rows, clip}

-- each record with its share of the items, one behind the other
abbrev pub shared : {X Y : Type 0} → (X → ℕ) → List X → List Y → List (With X Y)
shared count [] items = []
shared count (x ∷ xs) items = record { whole = x; items = take (count x) items } ∷ shared count xs (drop (count x) items)

-- each switch with its shares of the cases and of the ranges
abbrev pub shared_cases : List Switch → List Case → List Range → List A.Cased
shared_cases [] cases ranges = []
shared_cases (w ∷ ws) cases ranges =
    record { whole = w; cases = take w.cases cases; ranges = take w.ranges ranges }
    ∷ shared_cases ws (drop w.cases cases) (drop w.ranges ranges)

abbrev pub assign_means : List ℕ → Assign → A.Assign (List ℕ)
assign_means text a =
    record { op_assign = clip text a.op_assign; op_assign_name = a.op_assign_name; op = clip text a.op; op_name = a.op_name }

unfoldable pub meaning_of : Lent → Meaning
meaning_of m =
    record {
      header = record { caps = m.outside.header.caps; id_low = m.outside.header.low; id_high = m.outside.header.high };
      source = clip m.text m.outside.source;
      names = record { ends = map B.end_of (end_rows m); blob = clip m.text m.outside.blob };
      constants = map (λ tree. over_texts (clip m.text) A.levels tree.1) (grow A.levels m.outside.tops (map B.keyed_of (constant_rows m))).trees;
      tokens = map (λ row. clip m.text (B.span_of row)) (token_rows m);
      assigns = map (λ row. assign_means m.text (B.assign_of row)) (assign_rows m);
      chains = shared (λ c. c.steps) (map B.chain_of (chain_rows m)) (map B.step_of (step_rows m));
      switches = shared_cases (map B.switch_of (switch_rows m)) (map B.case_of (case_rows m)) (map B.range_of (range_rows m));
      customs = shared (λ u. u.inputs) (map B.site_of (custom_rows m)) (map B.input_of (input_rows m));
      main = m.outside.main;
      functions = shared (λ f. f.parameters) (map B.function_of (function_rows m)) (map B.parameter_of (parameter_rows m));
      code = clip m.text m.outside.code;
      positions = clip m.text m.outside.positions;
    }
