-- The numbers of a record that fit its row: those that a read gives. Counts may be any, and so may the bits of a float: their words are
-- taken as they stand.
use Rattle.std.specs.Prelude.{ℕ, zero, suc, ◌^◌, ◌<◌, Option, Some, None}
use Rattle.std.specs.Int.{w64}
use Rattle.std.proofs.Common.{SFits}
use Rattle.grammar.specs.Combinators.{Text, Each}
use Rattle.tables.specs.Table.{With}
use Rattle.format.specs.declared.records.NameIndex.{NameIndex}
use Rattle.format.specs.declared.records.Position.{Position}
use Rattle.format.specs.declared.records.Chunk.{Chunk}
use Rattle.format.specs.declared.records.Root.{Root}
use Rattle.format.specs.declared.records.Tail.{Tail}
use Rattle.format.specs.declared.records.Step.{Step}
use Rattle.format.specs.declared.records.Chain.{Chain}
use Rattle.format.specs.declared.records.Case.{Case}
use Rattle.format.specs.declared.records.Range.{Range}
use Rattle.format.specs.declared.records.Switch.{Switch}
use Rattle.format.specs.declared.records.Input.{Input}
use Rattle.format.specs.declared.records.Site.{Site}
use Rattle.format.specs.declared.records.Function.{Function}
use Rattle.format.specs.Artifact as A

-- ── numbers ──

pub record FitsBits (bits n : ℕ) : Type 0 where
  pub below : n < 2 ^ bits

abbrev pub FitsName : NameIndex → Type 0
FitsName name = FitsBits 32 name.0

-- a position has a line
abbrev pub FitsPosition : Option Position → Type 0
FitsPosition None = Unit
FitsPosition (Some at) = (0 < at.line) × (FitsBits 16 at.line × FitsBits 16 at.column)

pub record FitsChunk (c : Chunk) : Type 0 where
  pub entry : FitsBits 32 c.entry
  pub end : FitsBits 32 c.end
  pub slots : FitsBits 16 c.slots

-- ── records ──

-- a constant and all its items
abbrev pub FitsConstant : (T : Type 0) (levels : ℕ) → A.Constant T levels → Type 0
FitsConstant T zero c = Unit
FitsConstant T (suc levels) A.unit = Unit
FitsConstant T (suc levels) (A.boolean b) = Unit
FitsConstant T (suc levels) (A.int n) = SFits w64 n
FitsConstant T (suc levels) (A.float bits) = Unit
FitsConstant T (suc levels) (A.char code) = FitsBits 32 code
FitsConstant T (suc levels) (A.str t) = Unit
FitsConstant T (suc levels) (A.array items) = Each (FitsConstant T levels) items
FitsConstant T (suc levels) (A.map entries) = Each (λ entry. FitsConstant T levels entry.1) entries
FitsConstant T (suc levels) (A.blob t) = Unit
FitsConstant T (suc levels) (A.range from to) = SFits w64 from × SFits w64 to
FitsConstant T (suc levels) (A.range_inclusive from to) = SFits w64 from × SFits w64 to
FitsConstant T (suc levels) (A.pointer name curried kind) = Each (FitsConstant T levels) curried

pub record FitsAssign {T : Type 0} (a : A.Assign T) : Type 0 where
  pub op_assign_name : FitsName a.op_assign_name
  pub op_name : FitsName a.op_name

abbrev pub FitsRoot : Root → Type 0
FitsRoot (Root.Local slot name) = FitsBits 16 slot × FitsName name
FitsRoot Root.Temporary = Unit
FitsRoot (Root.Named name at) = FitsName name × FitsPosition at
FitsRoot (Root.This at) = FitsPosition at

abbrev pub FitsTail : Tail → Type 0
FitsTail Tail.Read = Unit
FitsTail Tail.Assign = Unit
FitsTail (Tail.AssignOp op) = FitsBits 32 op.0

pub record FitsChain (c : Chain) : Type 0 where
  pub root : FitsRoot c.root
  pub operands : FitsBits 16 c.operands
  pub tail : FitsTail c.tail

abbrev pub FitsStep : Step → Type 0
FitsStep (Step.Index flags operand at bracket) = FitsBits 8 flags × (FitsBits 16 operand × (FitsPosition at × FitsPosition bracket))
FitsStep (Step.Property flags name getter setter at) =
    FitsBits 8 flags × (FitsName name × (FitsName getter × (FitsName setter × FitsPosition at)))
FitsStep (Step.Method flags name argc operand at) =
    FitsBits 8 flags × (FitsName name × (FitsBits 8 argc × (FitsBits 16 operand × FitsPosition at)))

abbrev pub FitsSwitch : Switch → Type 0
FitsSwitch w = FitsBits 32 w.default

pub record FitsCase (c : Case) : Type 0 where
  pub blocks : FitsBits 32 c.blocks
  pub constant : FitsBits 32 c.constant.0

pub record FitsRange (r : Range) : Type 0 where
  pub from : SFits w64 r.from
  pub to : SFits w64 r.to
  pub target : FitsBits 32 r.target

pub record FitsSite (s : Site) : Type 0 where
  pub key : FitsBits 32 s.key
  pub state : FitsBits 32 s.state

-- FFFFFFFF means none in the file, and is no literal
abbrev pub FitsLiteral : Option ℕ → Type 0
FitsLiteral None = Unit
FitsLiteral (Some index) = index < 0xFFFFFFFF

pub record FitsInput (i : Input) : Type 0 where
  pub chunk : FitsChunk i.chunk
  pub literal : FitsLiteral i.literal

abbrev pub FitsThis : Option ℕ → Type 0
FitsThis None = Unit
FitsThis (Some index) = FitsBits 32 index

pub record FitsFunction (f : Function) : Type 0 where
  pub name : FitsName f.name
  pub this : FitsThis f.this_type
  pub chunk : FitsChunk f.chunk

-- ── what a file holds ──

-- a record with items: a fact of it, and of each of them
pub record Throughout {X Y : Type 0} (Whole : X → Type 0) (Item : Y → Type 0) (w : With X Y) : Type 0 where
  pub whole : Whole w.whole
  pub items : Each Item w.items

pub record ThroughoutCases (Whole : Switch → Type 0) (One : Case → Type 0) (Run : Range → Type 0) (w : A.Cased) : Type 0 where
  pub whole : Whole w.whole
  pub cases : Each One w.cases
  pub ranges : Each Run w.ranges

pub record FitsArtifact (a : A.Artifact) : Type 0 where
  pub ends : Each (FitsBits 32) a.names.ends
  pub constants : Each (FitsConstant Text A.levels) a.constants
  pub assigns : Each FitsAssign a.assigns
  pub chains : Each (Throughout FitsChain FitsStep) a.chains
  pub switches : Each (ThroughoutCases FitsSwitch FitsCase FitsRange) a.switches
  pub customs : Each (Throughout FitsSite FitsInput) a.customs
  pub functions : Each (Throughout FitsFunction FitsName) a.functions
