-- Which meanings are well-formed: document 01, "Well-formed tables, and writing", of a mask and of tables that have the places.
-- That tags, access and literals are known and depth is at most 64 is in the types.
use Rattle.std.specs.Prelude.{ℕ, zero, suc, ◌^◌, ◌≤◌, ◌<◌, ◌≡◌, ◌⊎◌, true, length}
use mathlib.Core.List.{List, [], foldl}
use Rattle.std.specs.Int.Bits.{bit_and}
use Rattle.std.specs.Int.{w64}
use Rattle.std.proofs.Common.{SFits}
use Rattle.grammar.specs.Combinators.{Each}
use Rattle.utf8.specs.Check.{is_utf8}
use Rattle.std.specs.Prelude.{Ok as Sound}
use Rattle.position_table.specs.Table.{checked}
use Rattle.tables.specs.Table.{With, count_items}
use Rattle.format.specs.declared.records.NameIndex.{NameIndex}
use Rattle.format.specs.declared.records.Chain.{Chain}
use Rattle.format.specs.declared.records.Step.{Step}
use Rattle.format.specs.declared.records.Case.{Case}
use Rattle.format.specs.declared.records.Input.{Input}
use Rattle.format.specs.declared.records.Site.{Site}
use Rattle.format.specs.declared.records.Function.{Function}
use Rattle.format.specs.Artifact as A
use Rattle.format.specs.File.{rising, last_end, scalar}
use Rattle.rows.specs.Fits.{FitsBits, FitsName, FitsChunk, FitsAssign, FitsChain, FitsStep, FitsSwitch, FitsCase, FitsRange, FitsSite, FitsInput, FitsFunction, Throughout, ThroughoutCases}
use Rattle.written.specs.Meaning.{Names, Meaning}

-- ── what stands in several sections ──

-- a count or a length is a full 64-bit number
abbrev pub Counted : {M : Type 0} → List M → Type 0
Counted ms = length ms < 2 ^ 64

pub record WellString (t : List ℕ) : Type 0 where
  pub counted : Counted t
  pub utf8 : is_utf8 t ≡ true

-- a list whose records are kept in one table, and a fact of each
pub record WellList {M : Type 0} (places : ℕ) (Ok : M → Type 0) (ms : List M) : Type 0 where
  pub counted : Counted ms
  pub room : length ms ≤ places
  pub each : Each Ok ms

-- a record with items says how many they are
pub record WellItems {X Y : Type 0} (Whole : X → Type 0) (count : X → ℕ) (Item : Y → Type 0) (w : With X Y) : Type 0 where
  pub fits : Throughout Whole Item w
  pub says : count w.whole ≡ length w.items
  pub counted : Counted w.items

-- a list of such records, and all their items in a table of their own
pub record WellWith {X Y : Type 0} (places item_places : ℕ) (Ok : With X Y → Type 0) (ws : List (With X Y)) : Type 0 where
  pub list : WellList places Ok ws
  pub item_room : foldl count_items 0 ws ≤ item_places

-- ── the sections ──

pub record WellHeader (h : A.Header) : Type 0 where
  pub caps : FitsBits 32 h.caps
  pub id_low : FitsBits 64 h.id_low
  pub id_high : FitsBits 64 h.id_high

-- the names rule: ends never fall, the last end (or 0) equals the blob length, and the whole blob is UTF-8
pub record WellNames (places : ℕ) (ns : Names) : Type 0 where
  pub ends : WellList places (FitsBits 32) ns.ends
  pub rises : rising 0 ns.ends ≡ true
  pub last : last_end 0 ns.ends ≡ length ns.blob
  pub blob : WellString ns.blob

abbrev pub WellKind : A.Kind → Type 0
WellKind A.normal = Unit
WellKind (A.script n) = FitsBits 64 n

abbrev pub WellConstant : (levels : ℕ) → A.Constant (List ℕ) levels → Type 0
WellConstant zero c = ⊥
WellConstant (suc levels) A.unit = Unit
WellConstant (suc levels) (A.boolean b) = Unit
WellConstant (suc levels) (A.int n) = SFits w64 n
WellConstant (suc levels) (A.float bits) = FitsBits 64 bits
WellConstant (suc levels) (A.char code) = scalar code ≡ true
WellConstant (suc levels) (A.str t) = WellString t
WellConstant (suc levels) (A.array items) = Counted items × Each (WellConstant levels) items
WellConstant (suc levels) (A.map entries) = Counted entries × Each (λ entry. WellString entry.0 × WellConstant levels entry.1) entries
WellConstant (suc levels) (A.blob t) = Counted t
WellConstant (suc levels) (A.range from to) = SFits w64 from × SFits w64 to
WellConstant (suc levels) (A.range_inclusive from to) = SFits w64 from × SFits w64 to
WellConstant (suc levels) (A.pointer name curried kind) =
    WellString name × ((Counted curried × Each (WellConstant levels) curried) × WellKind kind)

-- a place for each constant in the tree
pub record WellConstants (places : ℕ) (cs : List (A.Constant (List ℕ) A.levels)) : Type 0 where
  pub counted : Counted cs
  pub room : foldl (A.behind (List ℕ) A.levels) 0 cs ≤ places
  pub each : Each (WellConstant A.levels) cs

pub record WellAssign (a : A.Assign (List ℕ)) : Type 0 where
  pub fits : FitsAssign a
  pub op_assign : WellString a.op_assign
  pub op : WellString a.op

abbrev pub flags_of : Step → ℕ
flags_of (Step.Index flags operand at bracket) = flags
flags_of (Step.Property flags name getter setter at) = flags
flags_of (Step.Method flags name argc operand at) = flags

-- flags within the mask
pub record WellStep (mask : ℕ) (st : Step) : Type 0 where
  pub fits : FitsStep st
  pub masked : bit_and (flags_of st) mask ≡ flags_of st

abbrev pub WellChain : ℕ → With Chain Step → Type 0
WellChain mask = WellItems FitsChain (λ c. c.steps) (WellStep mask)

-- a case names a top constant
pub record WellCase (tops : ℕ) (c : Case) : Type 0 where
  pub fits : FitsCase c
  pub top : c.constant.0 < tops

pub record WellSwitch (tops : ℕ) (w : A.Cased) : Type 0 where
  pub fits : ThroughoutCases FitsSwitch (WellCase tops) FitsRange w
  pub says_cases : w.whole.cases ≡ length w.cases
  pub says_ranges : w.whole.ranges ≡ length w.ranges
  pub counted_cases : Counted w.cases
  pub counted_ranges : Counted w.ranges

-- the places of the cases' and the ranges' tables
pub record CaseRoom (case_places range_places : ℕ) (used : A.UsedCases) : Type 0 where
  pub cases : used.cases ≤ case_places
  pub ranges : used.ranges ≤ range_places

pub record WellSwitches (places case_places range_places tops : ℕ) (ws : List A.Cased) : Type 0 where
  pub list : WellList places (WellSwitch tops) ws
  pub item_room : CaseRoom case_places range_places (foldl A.count_cases (record { cases = 0; ranges = 0 }) ws)

abbrev pub WellSite : With Site Input → Type 0
WellSite = WellItems FitsSite (λ u. u.inputs) FitsInput

abbrev pub WellFunction : With Function NameIndex → Type 0
WellFunction = WellItems FitsFunction (λ f. f.parameters) FitsName

-- a position table is empty or checks
pub record WellPositions (t : List ℕ) : Type 0 where
  pub counted : Counted t
  pub sound : (t ≡ []) ⊎ (checked t ≡ Sound tt)

pub record WellFormed (places : A.Places) (mask : ℕ) (m : Meaning) : Type 0 where
  pub header : WellHeader m.header
  pub source : WellString m.source
  pub names : WellNames places.names m.names
  pub constants : WellConstants places.constants m.constants
  pub tokens : WellList places.tokens WellString m.tokens
  pub assigns : WellList places.assigns WellAssign m.assigns
  pub chains : WellWith places.chains places.steps (WellChain mask) m.chains
  pub switches : WellSwitches places.switches places.cases places.ranges (length m.constants) m.switches
  pub customs : WellWith places.customs places.inputs WellSite m.customs
  pub main : FitsChunk m.main
  pub functions : WellWith places.functions places.parameters WellFunction m.functions
  pub code : Counted m.code
  pub positions : WellPositions m.positions
