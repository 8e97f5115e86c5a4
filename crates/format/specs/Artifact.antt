-- What a file holds, section by section, and how many places of its tables each record takes.
use Rattle.std.specs.Prelude.{ℕ, zero, suc, ◌+◌, Bool, length, ℤ}
use mathlib.Core.List.{List, foldl}
use Rattle.grammar.specs.Combinators.{Text}
use Rattle.tables.specs.Table.{With}
use Rattle.format.specs.declared.records.NameIndex.{NameIndex}
use Rattle.format.specs.declared.records.Chunk.{Chunk}
use Rattle.format.specs.declared.records.Step.{Step}
use Rattle.format.specs.declared.records.Chain.{Chain}
use Rattle.format.specs.declared.records.Case.{Case}
use Rattle.format.specs.declared.records.Range.{Range}
use Rattle.format.specs.declared.records.Switch.{Switch}
use Rattle.format.specs.declared.records.Input.{Input}
use Rattle.format.specs.declared.records.Site.{Site}
use Rattle.format.specs.declared.records.Function.{Function}

-- 1. the header: the debug id is kept as two halves
pub record Header : Type 0 where
  pub caps : ℕ
  pub id_low : ℕ
  pub id_high : ℕ

-- the ends, and the blob that they cut
pub record Names : Type 0 where
  pub ends : List ℕ
  pub blob : Text

-- what kind of function a pointer names: 81, or 82 and a parameter count
pub data Kind : Type 0 where
  normal : Kind
  script : ℕ → Kind

-- a constant over texts T and the constants E one level deeper
pub data Node (T E : Type 0) : Type 0 where
  unit : Node T E
  boolean : Bool → Node T E
  int : ℤ → Node T E
  float : ℕ → Node T E
  char : ℕ → Node T E
  str : T → Node T E
  array : List E → Node T E
  map : List (T × E) → Node T E
  blob : T → Node T E
  range : ℤ → ℤ → Node T E
  range_inclusive : ℤ → ℤ → Node T E
  pointer : T → List E → Kind → Node T E

-- constants nested in at most so many levels
abbrev pub Constant : Type 0 → ℕ → Type 0
Constant T zero = ⊥
Constant T (suc levels) = Node T (Constant T levels)

-- the places used behind a constant: one for itself and those of its items, each behind the one before
abbrev pub behind : (T : Type 0) (levels : ℕ) → ℕ → Constant T levels → ℕ
behind T zero used c = used
behind T (suc levels) used (array items) = foldl (behind T levels) (used + 1) items
behind T (suc levels) used (map entries) = foldl (λ used entry. behind T levels used entry.1) (used + 1) entries
behind T (suc levels) used (pointer name curried kind) = foldl (behind T levels) (used + 1) curried
behind T (suc levels) used unit = used + 1
behind T (suc levels) used (boolean b) = used + 1
behind T (suc levels) used (int n) = used + 1
behind T (suc levels) used (float bits) = used + 1
behind T (suc levels) used (char code) = used + 1
behind T (suc levels) used (str t) = used + 1
behind T (suc levels) used (blob t) = used + 1
behind T (suc levels) used (range from to) = used + 1
behind T (suc levels) used (range_inclusive from to) = used + 1

-- top constants stand at depth 0, and depth 65 is refused: 65 levels
abbrev pub levels : ℕ
levels = 65

pub record Assign (T : Type 0) : Type 0 where
  pub op_assign : T
  pub op_assign_name : NameIndex
  pub op : T
  pub op_name : NameIndex

-- a switch, its cases and its ranges, and the places of their tables that are used
pub record Cased : Type 0 where
  pub whole : Switch
  pub cases : List Case
  pub ranges : List Range

pub record UsedCases : Type 0 where
  pub cases : ℕ
  pub ranges : ℕ

abbrev pub count_cases : UsedCases → Cased → UsedCases
count_cases used w = record { cases = used.cases + length w.cases; ranges = used.ranges + length w.ranges }

-- the places of the thirteen tables, by their numbers in document 01
pub record Places : Type 0 where
  pub names : ℕ
  pub constants : ℕ
  pub tokens : ℕ
  pub assigns : ℕ
  pub chains : ℕ
  pub steps : ℕ
  pub switches : ℕ
  pub cases : ℕ
  pub ranges : ℕ
  pub customs : ℕ
  pub inputs : ℕ
  pub functions : ℕ
  pub parameters : ℕ

pub record Artifact : Type 0 where
  pub header : Header
  pub source : Text
  pub names : Names
  pub constants : List (Constant Text levels)
  pub tokens : List Text
  pub assigns : List (Assign Text)
  pub chains : List (With Chain Step)
  pub switches : List Cased
  pub customs : List (With Site Input)
  pub main : Chunk
  pub functions : List (With Function NameIndex)
  pub code : Text
  pub positions : Text
