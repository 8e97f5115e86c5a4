-- The row of a record that fits gives the record back.
use Rattle.std.specs.Prelude.{Option, Some, None}
use Prim.Native.Nat.{ℕ, ◌+◌, ◌-◌, ◌%◌, ◌^◌, ◌<◌}
use mathlib.Core.Path.{◌≡◌, refl}
use mathlib.Core.Bool.{Bool, true, false, not}
use native.Mathlib.Omega.{arith}
use lib.Dec.{eqb}
use mir.Syntax.{w64}
use mir.ValLaws.{to_z-of_z}
use borrow.Author.Tests.{ne_eqb}
use Rattle.grammar.specs.Combinators.{Text}
use Rattle.format.specs.declared.records.NameIndex.{NameIndex}
use Rattle.format.specs.declared.records.Root.{Root}
use Rattle.format.specs.declared.records.Tail.{Tail}
use Rattle.format.specs.declared.records.Step.{Step}
use Rattle.format.specs.declared.records.Chain.{Chain}
use Rattle.format.specs.declared.records.Case.{Case}
use Rattle.format.specs.declared.records.Range.{Range}
use Rattle.format.specs.declared.records.Switch.{Switch}
use Rattle.format.specs.declared.records.Input.{Input}
use Rattle.format.specs.declared.records.Site.{Site}
use Rattle.format.specs.declared.records.Access.{Access}
use Rattle.format.specs.declared.records.Function.{Function}
use Rattle.format.specs.Artifact as A
use Rattle.format.specs.Rows.{yes, tail_words, literal_words, this_word, access_word, end_row, token_row, assign_row, chain_row, step_row, switch_row, case_row, range_row, site_row, input_row, function_row, parameter_row}
use Rattle.rows.specs.Back.{word, tail_of, literal_of, this_of, access_of, end_of, span_of, assign_of, chain_of, step_of, switch_of, case_of, range_of, site_of, input_of, function_of, parameter_of}
use Rattle.rows.specs.Fits.{FitsBits, FitsName, FitsAssign, FitsRoot, FitsTail, FitsChain, FitsStep, FitsSwitch, FitsCase, FitsRange, FitsSite, FitsLiteral, FitsInput, FitsThis, FitsFunction}
use Rattle.rows.specs.Given.{placed_assign}
use Rattle.rows.proofs.Numbers.{bits_back, position-back, chunk_back}

pub end_back : (end : ℕ) → FitsBits 32 end → end_of (end_row end) ≡ end
end_back end fits = bits_back fits

pub token_back : (t : Text) → span_of (token_row t) ≡ t.span
token_back t = refl

pub assign-back : (a : A.Assign Text) → FitsAssign a → assign_of (assign_row a) ≡ placed_assign a
assign-back a fits = rw (bits_back fits.op_assign_name, bits_back fits.op_name)

tail-back : (tail : Tail) → FitsTail tail → tail_of (word (tail_words tail) 0) (word (tail_words tail) 1) ≡ tail
tail-back Tail.Read fits = refl
tail-back Tail.Assign fits = refl
tail-back (Tail.AssignOp op) fits = rw (bits_back fits)

-- a chain with another root
abbrev rooted : Chain → Root → Chain
rooted c root = record { root = root; operands = c.operands; steps = c.steps; tail = c.tail }

pub chain_back : (c : Chain) → FitsChain c → chain_of (chain_row c) ≡ c
chain_back c fits = behind c.root fits.root
  where
    operands-back : c.operands % 2 ^ 16 ≡ c.operands
    operands-back = bits_back fits.operands

    behind : (root : Root) → FitsRoot root → chain_of (chain_row (rooted c root)) ≡ rooted c root
    behind (Root.Local slot name) root = rw (bits_back root.0, bits_back root.1, operands-back, tail-back c.tail fits.tail)
    behind Root.Temporary root = rw (operands-back, tail-back c.tail fits.tail)
    behind (Root.Named name at) root = rw (bits_back root.0, position-back at root.1, operands-back, tail-back c.tail fits.tail)
    behind (Root.This at) root = rw (position-back at root, operands-back, tail-back c.tail fits.tail)

pub step_back : (s : Step) → FitsStep s → step_of (step_row s) ≡ s
step_back (Step.Index flags operand at bracket) fits =
    rw (bits_back fits.0, bits_back fits.1.0, position-back at fits.1.1.0, position-back bracket fits.1.1.1)
step_back (Step.Property flags name getter setter at) fits =
    rw (bits_back fits.0, bits_back fits.1.0, bits_back fits.1.1.0, bits_back fits.1.1.1.0, position-back at fits.1.1.1.1)
step_back (Step.Method flags name argc operand at) fits =
    rw (bits_back fits.0, bits_back fits.1.0, bits_back fits.1.1.0, bits_back fits.1.1.1.0, position-back at fits.1.1.1.1)

pub switch_back : (w : Switch) → FitsSwitch w → switch_of (switch_row w) ≡ w
switch_back w fits = rw (bits_back fits)

pub case-back : (c : Case) → FitsCase c → case_of (case_row c) ≡ c
case-back c fits = rw (bits_back fits.blocks, bits_back fits.constant)

pub range_back : (r : Range) → FitsRange r → range_of (range_row r) ≡ r
range_back r fits = rw (to_z-of_z w64 r.from fits.from, to_z-of_z w64 r.to fits.to, bits_back fits.target, inclusive-back r.inclusive)
  where
    inclusive-back : (b : Bool) → not (eqb (yes b) 0) ≡ b
    inclusive-back true = refl
    inclusive-back false = refl

pub site-back : (s : Site) → FitsSite s → site_of (site_row s) ≡ s
site-back s fits = rw (bits_back fits.key, bits_back fits.state)

-- what is below FFFFFFFF fits 32 bits
literal-fits : {n : ℕ} → n < 0xFFFFFFFF → FitsBits 32 n
literal-fits h = record { below = omega arith }

pub input_back : (i : Input) → FitsInput i → input_of (input_row i) ≡ i
input_back i fits = rw (chunk_back i.chunk fits.chunk, literal-back i.literal fits.literal)
  where
    literal-back : (l : Option ℕ) → FitsLiteral l → literal_of (word (literal_words l) 0) (word (literal_words l) 1) ≡ l
    literal-back None fits = refl
    literal-back (Some index) fits = rw (bits_back (literal-fits fits))

access-back : (a : Access) → access_of (access_word a) ≡ a
access-back Access.Public = refl
access-back Access.Private = refl

this-back : (t : Option ℕ) → FitsThis t → this_of (this_word t) ≡ t
this-back None fits = refl
this-back (Some index) fits =
    let less : index + 1 - 1 ≡ index = omega arith in
    rw (ne_eqb (index + 1) 0 (omega arith), less, bits_back fits)

pub function-back : (f : Function) → FitsFunction f → function_of (function_row f) ≡ f
function-back f fits =
    rw (bits_back fits.name, access-back f.access, this-back f.this_type fits.this, chunk_back f.chunk fits.chunk)

pub parameter-back : (n : NameIndex) → FitsName n → parameter_of (parameter_row n) ≡ n
parameter-back n fits = rw (bits_back fits)
