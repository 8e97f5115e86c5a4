-- What a file means: all that it holds, with its texts' bytes in place of the texts.
use Rattle.std.specs.Prelude.{ℕ, List, map}
use Rattle.grammar.specs.Combinators.{Text}
use Rattle.tables.specs.Table.{With}
use Rattle.format.specs.declared.records.NameIndex.{NameIndex}
use Rattle.format.specs.declared.records.Chunk.{Chunk}
use Rattle.format.specs.declared.records.Step.{Step}
use Rattle.format.specs.declared.records.Chain.{Chain}
use Rattle.format.specs.declared.records.Input.{Input}
use Rattle.format.specs.declared.records.Site.{Site}
use Rattle.format.specs.declared.records.Function.{Function}
use Rattle.format.specs.Artifact as A
use Rattle.rows.specs.Tree.{over_texts}

pub record Names : Type 0 where
  pub ends : List ℕ
  pub blob : List ℕ

pub record Meaning : Type 0 where
  pub header : A.Header
  pub source : List ℕ
  pub names : Names
  pub constants : List (A.Constant (List ℕ) A.levels)
  pub tokens : List (List ℕ)
  pub assigns : List (A.Assign (List ℕ))
  pub chains : List (With Chain Step)
  pub switches : List A.Cased
  pub customs : List (With Site Input)
  pub main : Chunk
  pub functions : List (With Function NameIndex)
  pub code : List ℕ
  pub positions : List ℕ

-- ── what each part that holds a text means ──

abbrev pub mean_text : Text → List ℕ
mean_text t = t.bytes

abbrev pub mean_names : A.Names → Names
mean_names ns = record { ends = ns.ends; blob = mean_text ns.blob }

abbrev pub mean_constant : (levels : ℕ) → A.Constant Text levels → A.Constant (List ℕ) levels
mean_constant levels c = over_texts mean_text levels c

abbrev pub mean_assign : A.Assign Text → A.Assign (List ℕ)
mean_assign a =
    record { op_assign = mean_text a.op_assign; op_assign_name = a.op_assign_name; op = mean_text a.op; op_name = a.op_name }

abbrev pub mean : A.Artifact → Meaning
mean a =
    record {
      header = a.header;
      source = mean_text a.source;
      names = mean_names a.names;
      constants = map (mean_constant A.levels) a.constants;
      tokens = map mean_text a.tokens;
      assigns = map mean_assign a.assigns;
      chains = a.chains;
      switches = a.switches;
      customs = a.customs;
      main = a.main;
      functions = a.functions;
      code = mean_text a.code;
      positions = mean_text a.positions;
    }
