-- What is lent to be written: thirteen tables of words, what stands outside them, and the text that the spans cut. Any words, any
-- spans and any counts.
use Rattle.std.specs.Prelude.{ℕ, Bool, List, take, drop}
use Rattle.std.specs.List.{list_all}
use Rattle.grammar.specs.declared.Span.{Span}
use Rattle.format.specs.declared.answer.Artifact.{Artifact}
use Rattle.rows.specs.Back.{cut}

-- `numbers_fit` says that the numbers outside the tables fit their kinds: those of a struct do, and a caller that has words says it
pub record Lent : Type 0 where
  pub outside : Artifact
  pub numbers_fit : Bool
  pub ends : List ℕ
  pub constants : List ℕ
  pub tokens : List ℕ
  pub assigns : List ℕ
  pub chains : List ℕ
  pub steps : List ℕ
  pub switches : List ℕ
  pub cases : List ℕ
  pub ranges : List ℕ
  pub customs : List ℕ
  pub inputs : List ℕ
  pub functions : List ℕ
  pub parameters : List ℕ
  pub text : List ℕ

-- of its parts, the tables in their order
abbrev pub lent : Artifact → Bool → (ends constants tokens assigns chains steps switches cases ranges customs inputs functions parameters text : List ℕ) → Lent
lent outside fit ends constants tokens assigns chains steps switches cases ranges customs inputs functions parameters text =
    record {
      outside = outside;
      numbers_fit = fit;
      ends = ends;
      constants = constants;
      tokens = tokens;
      assigns = assigns;
      chains = chains;
      steps = steps;
      switches = switches;
      cases = cases;
      ranges = ranges;
      customs = customs;
      inputs = inputs;
      functions = functions;
      parameters = parameters;
      text = text;
    }

-- the rows of each table that are used
module _ (m : Lent) where
  abbrev pub end_rows : List (List ℕ)
  end_rows = cut 1 m.outside.used.names m.ends

  abbrev pub constant_rows : List (List ℕ)
  constant_rows = cut 8 m.outside.used.constants m.constants

  abbrev pub token_rows : List (List ℕ)
  token_rows = cut 2 m.outside.used.tokens m.tokens

  abbrev pub assign_rows : List (List ℕ)
  assign_rows = cut 6 m.outside.used.assigns m.assigns

  abbrev pub chain_rows : List (List ℕ)
  chain_rows = cut 9 m.outside.used.chains m.chains

  abbrev pub step_rows : List (List ℕ)
  step_rows = cut 11 m.outside.used.steps m.steps

  abbrev pub switch_rows : List (List ℕ)
  switch_rows = cut 3 m.outside.used.switches m.switches

  abbrev pub case_rows : List (List ℕ)
  case_rows = cut 2 m.outside.used.cases m.cases

  abbrev pub range_rows : List (List ℕ)
  range_rows = cut 4 m.outside.used.ranges m.ranges

  abbrev pub custom_rows : List (List ℕ)
  custom_rows = cut 3 m.outside.used.customs m.customs

  abbrev pub input_rows : List (List ℕ)
  input_rows = cut 5 m.outside.used.inputs m.inputs

  abbrev pub function_rows : List (List ℕ)
  function_rows = cut 7 m.outside.used.functions m.functions

  abbrev pub parameter_rows : List (List ℕ)
  parameter_rows = cut 1 m.outside.used.parameters m.parameters

-- the bytes of a span; what lies past the end is not there
abbrev pub clip : List ℕ → Span → List ℕ
clip text span = take span.size (drop span.start text)

-- a test that holds of each
abbrev pub every : {X : Type 0} → (X → Bool) → List X → Bool
every = list_all
