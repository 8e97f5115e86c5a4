-- The row of a record that fits keeps the rules on rows: its numbers are sound and its tags are known.
use Rattle.std.specs.Prelude.{Option, Some, None}
use Prim.Native.Nat.{ℕ, ◌^◌, ◌≤◌}
use mathlib.Core.Path.{◌≡◌, refl}
use mathlib.Core.Bool.{Bool, true, false, not, ◌&&◌, ◌||◌}
use native.Mathlib.Omega.{arith}
use lib.Dec.{eqb}
use borrow.Author.Tests.{lt-ltb, le-leb, eq-eqb, ne_eqb}
use Rattle.grammar.specs.Combinators.{Text}
use Rattle.format.specs.declared.records.NameIndex.{NameIndex}
use Rattle.format.specs.declared.records.Position.{Position}
use Rattle.format.specs.declared.records.Chunk.{Chunk}
use Rattle.format.specs.declared.records.Root.{Root}
use Rattle.format.specs.declared.records.Tail.{Tail}
use Rattle.format.specs.declared.records.Step.{Step}
use Rattle.format.specs.declared.records.Chain.{Chain}
use Rattle.format.specs.declared.records.Case.{Case}
use Rattle.format.specs.declared.records.Range.{Range}
use Rattle.format.specs.declared.records.Switch.{Switch}
use Rattle.format.specs.declared.records.Input.{Input}
use Rattle.format.specs.declared.records.Site.{Site}
use Rattle.format.specs.declared.records.Access.{Access}
use Rattle.format.specs.declared.records.Function.{Function}
use Rattle.format.specs.Artifact as A
use Rattle.format.specs.Rows as R
use Rattle.rows.specs.Back.{word}
use Rattle.rows.specs.Fits.{FitsBits, FitsName, FitsPosition, FitsChunk, FitsAssign, FitsRoot, FitsTail, FitsChain, FitsStep, FitsSwitch, FitsCase, FitsRange, FitsSite, FitsLiteral, FitsInput, FitsThis, FitsFunction}
use Rattle.written.specs.WellFormed.{WellStep}
use Rattle.model.specs.Rules.{bits, among, yes_no, sound_position, sound_chunk, sound_word, sound_assign, sound_chain, sound_step, sound_switch, sound_case, sound_range, sound_site, sound_input, sound_function, known_chain, known_step, known_function}

-- ── numbers ──

fits : {n w : ℕ} → FitsBits n w → bits n w ≡ true
fits ok = lt-ltb _ _ ok.below

position : (at : Option Position) → FitsPosition at → sound_position (R.line at) (R.column at) ≡ true
position None ok = refl
position (Some at) ok = rw (fits ok.1.0, fits ok.1.1, ne_eqb at.line 0 (omega (arith, ok.0)))

chunk : (c : Chunk) → FitsChunk c → sound_chunk c.entry c.end c.slots ≡ true
chunk c ok = rw (fits ok.entry, fits ok.end, fits ok.slots)

-- ── rule 9 ──

pub sound-end : (end : ℕ) → FitsBits 32 end → sound_word (R.end_row end) ≡ true
sound-end end ok = fits ok

pub sound-assign : (a : A.Assign Text) → FitsAssign a → sound_assign (R.assign_row a) ≡ true
sound-assign a ok = rw (fits ok.op_assign_name, fits ok.op_name)

sound-tail : (t : Tail) → FitsTail t → (not (eqb (word (R.tail_words t) 0) 3) || bits 32 (word (R.tail_words t) 1)) ≡ true
sound-tail Tail.Read ok = refl
sound-tail Tail.Assign ok = refl
sound-tail (Tail.AssignOp op) ok = fits ok

pub sound-chain : (c : Chain) → FitsChain c → sound_chain (R.chain_row c) ≡ true
sound-chain c ok = go c.root ok.root
  where
    rest : (bits 16 c.operands && (not (eqb (word (R.tail_words c.tail) 0) 3) || bits 32 (word (R.tail_words c.tail) 1))) ≡ true
    rest = rw (fits ok.operands, sound-tail c.tail ok.tail)

    go : (r : Root) → FitsRoot r → sound_chain (R.chain_row (record { root = r; operands = c.operands; steps = c.steps; tail = c.tail })) ≡ true
    go (Root.Local slot name) ok = rw (fits ok.0, fits ok.1, rest)
    go Root.Temporary ok = rest
    go (Root.Named name at) ok = rw (fits ok.0, position at ok.1, rest)
    go (Root.This at) ok = rw (position at ok, rest)

pub sound-step : (st : Step) → FitsStep st → sound_step (R.step_row st) ≡ true
sound-step (Step.Index flags operand at bracket) ok = rw (fits ok.1.0, position at ok.1.1.0, position bracket ok.1.1.1)
sound-step (Step.Property flags name getter setter at) ok =
    rw (fits ok.1.0, fits ok.1.1.0, fits ok.1.1.1.0, position at ok.1.1.1.1)
sound-step (Step.Method flags name argc operand at) ok =
    rw (fits ok.1.0, fits ok.1.1.0, fits ok.1.1.1.0, position at ok.1.1.1.1)

pub sound-switch : (w : Switch) → FitsSwitch w → sound_switch (R.switch_row w) ≡ true
sound-switch w ok = fits ok

pub sound-case : (c : Case) → FitsCase c → sound_case (R.case_row c) ≡ true
sound-case c ok = rw (fits ok.blocks, fits ok.constant)

pub sound-range : (r : Range) → FitsRange r → sound_range (R.range_row r) ≡ true
sound-range r ok = rw (yes-no r.inclusive, fits ok.target)
  where
    yes-no : (b : Bool) → yes_no (R.yes b) ≡ true
    yes-no true = refl
    yes-no false = refl

pub sound-site : (u : Site) → FitsSite u → sound_site (R.site_row u) ≡ true
sound-site u ok = rw (fits ok.key, fits ok.state)

pub sound-input : (i : Input) → FitsInput i → sound_input (R.input_row i) ≡ true
sound-input i ok = go i.literal ok.literal
  where
    go : (l : Option ℕ) → FitsLiteral l → sound_input (R.input_row (record { chunk = i.chunk; literal = l })) ≡ true
    go None fit = rw (chunk i.chunk ok.chunk)
    go (Some index) fit = rw (chunk i.chunk ok.chunk, lt-ltb index 0xFFFFFFFF fit)

pub sound-function : (f : Function) → FitsFunction f → sound_function (R.function_row f) ≡ true
sound-function f ok = rw (fits ok.name, le-leb _ (2 ^ 32) (this f.this_type ok.this), chunk f.chunk ok.chunk)
  where
    this : (t : Option ℕ) → FitsThis t → R.this_word t ≤ 2 ^ 32
    this None fit = omega arith
    this (Some index) fit = omega (arith, fit.below)

pub sound-parameter : (n : NameIndex) → FitsName n → sound_word (R.parameter_row n) ≡ true
sound-parameter n ok = fits ok

-- ── rule 5 ──

pub known-chain : (c : Chain) → known_chain (R.chain_row c) ≡ true
known-chain c = go c.root
  where
    tail : (t : Tail) → among 3 (word (R.tail_words t) 0) ≡ true
    tail Tail.Read = refl
    tail Tail.Assign = refl
    tail (Tail.AssignOp op) = refl

    go : (r : Root) → known_chain (R.chain_row (record { root = r; operands = c.operands; steps = c.steps; tail = c.tail })) ≡ true
    go (Root.Local slot name) = tail c.tail
    go Root.Temporary = tail c.tail
    go (Root.Named name at) = tail c.tail
    go (Root.This at) = tail c.tail

pub known_step_lem : (mask : ℕ) (st : Step) → WellStep mask st → known_step mask (R.step_row st) ≡ true
known_step_lem mask (Step.Index flags operand at bracket) ok = eq-eqb _ _ ok.masked
known_step_lem mask (Step.Property flags name getter setter at) ok = eq-eqb _ _ ok.masked
known_step_lem mask (Step.Method flags name argc operand at) ok = eq-eqb _ _ ok.masked

pub known-function : (f : Function) → known_function (R.function_row f) ≡ true
known-function f = go f.access
  where
    go : (a : Access) → known_function (R.function_row (record { name = f.name; access = a; this_type = f.this_type; parameters = f.parameters; chunk = f.chunk })) ≡ true
    go Access.Public = refl
    go Access.Private = refl

-- how many steps a chain says it has
pub chain-says : (c : Chain) → word (R.chain_row c) 6 ≡ c.steps
chain-says c = go c.root
  where
    go : (r : Root) → word (R.chain_row (record { root = r; operands = c.operands; steps = c.steps; tail = c.tail })) 6 ≡ c.steps
    go (Root.Local slot name) = refl
    go Root.Temporary = refl
    go (Root.Named name at) = refl
    go (Root.This at) = refl
