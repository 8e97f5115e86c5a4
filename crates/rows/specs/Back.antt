-- The way back: the record that the words of a row stand for, in the order of the rows' own definitions. Every row gives a record:
-- a word is taken modulo the width of what it holds, and a tag that is none of the known ones means the last variant.
use Rattle.std.specs.Prelude.{ℕ, zero, suc, ◌-◌, ◌%◌, ◌^◌, true, false, not, List, [], ◌∷◌, map, get_or, take, drop, eqb, ℤ, if◌then◌else◌, Option, Some, None}
use Rattle.std.specs.Int.{w64}
use Rattle.std.proofs.Common.{to_z}
use Rattle.grammar.specs.declared.Span.{Span}
use Rattle.format.specs.declared.records.NameIndex.{NameIndex}
use Rattle.format.specs.declared.records.Position.{Position}
use Rattle.format.specs.declared.records.Chunk.{Chunk}
use Rattle.format.specs.declared.records.Assign.{Assign}
use Rattle.format.specs.declared.records.Root.{Root}
use Rattle.format.specs.declared.records.Tail.{Tail}
use Rattle.format.specs.declared.records.Step.{Step}
use Rattle.format.specs.declared.records.Chain.{Chain}
use Rattle.format.specs.declared.records.Case.{Case}
use Rattle.format.specs.declared.records.Range.{Range}
use Rattle.format.specs.declared.records.Switch.{Switch}
use Rattle.format.specs.declared.records.Input.{Input}
use Rattle.format.specs.declared.records.Site.{Site}
use Rattle.format.specs.declared.records.Access.{Access}
use Rattle.format.specs.declared.records.Function.{Function}
use Rattle.format.specs.File.{placed}
use Rattle.rows.specs.declared.constants.Kind.{Kind}
use Rattle.rows.specs.declared.constants.Constant.{Constant}
use Rattle.rows.specs.declared.constants.Keyed.{Keyed}

-- ── words ──

abbrev pub word : List ℕ → ℕ → ℕ
word row i = get_or row i 0

abbrev pub octet : ℕ → ℕ
octet w = w % 2 ^ 8

abbrev pub small : ℕ → ℕ
small w = w % 2 ^ 16

abbrev pub index : ℕ → ℕ
index w = w % 2 ^ 32

abbrev pub name : ℕ → NameIndex
name w = record { 0 = index w }

-- the signed number of 64 bits
abbrev pub signed : ℕ → ℤ
signed w = to_z w64 w

-- line and column; line 0 means none, as in the file
abbrev pub position : ℕ → ℕ → Option Position
position line column = placed (small line) (small column)

abbrev pub chunk_of : ℕ → ℕ → ℕ → Chunk
chunk_of entry end slots = record { entry = index entry; end = index end; slots = small slots }

-- ── rows ──

-- 1 name ends: end
abbrev pub end_of : List ℕ → ℕ
end_of row = index (word row 0)

-- 2 constants: tag, a, b, start, length, items, key start, key length
abbrev pub text_of : List ℕ → Span
text_of row = record { start = word row 3; size = word row 4 }

abbrev pub kind_of : ℕ → ℕ → Kind
kind_of tag parameters = if eqb tag 0x81 then Kind.Normal else Kind.Script parameters

abbrev pub pointer_of : List ℕ → Constant
pointer_of row = Constant.Pointer (text_of row) (word row 5) (kind_of (word row 1) (word row 2))

abbrev pub compound_of : List ℕ → Constant
compound_of row =
    if eqb (word row 0) 0x07 then Constant.Array (word row 5)
    else (if eqb (word row 0) 0x08 then Constant.Map (word row 5)
    else (if eqb (word row 0) 0x09 then Constant.Blob (text_of row)
    else (if eqb (word row 0) 0x0A then Constant.Range (signed (word row 1)) (signed (word row 2))
    else (if eqb (word row 0) 0x0B then Constant.RangeInclusive (signed (word row 1)) (signed (word row 2))
    else pointer_of row))))

abbrev pub constant_of : List ℕ → Constant
constant_of row =
    if eqb (word row 0) 0x00 then Constant.Unit
    else (if eqb (word row 0) 0x01 then Constant.Boolean false
    else (if eqb (word row 0) 0x02 then Constant.Boolean true
    else (if eqb (word row 0) 0x03 then Constant.Int (signed (word row 1))
    else (if eqb (word row 0) 0x04 then Constant.Float (word row 1)
    else (if eqb (word row 0) 0x05 then Constant.Char (index (word row 1))
    else (if eqb (word row 0) 0x06 then Constant.Str (text_of row)
    else compound_of row))))))

abbrev pub keyed_of : List ℕ → Keyed
keyed_of row = record { key = record { start = word row 6; size = word row 7 }; constant = constant_of row }

-- 3 tokens: start, length
abbrev pub span_of : List ℕ → Span
span_of row = record { start = word row 0; size = word row 1 }

-- 4 assigns: start, length, name, start, length, name
abbrev pub assign_of : List ℕ → Assign
assign_of row =
    record {
      op_assign = record { start = word row 0; size = word row 1 };
      op_assign_name = name (word row 2);
      op = record { start = word row 3; size = word row 4 };
      op_name = name (word row 5);
    }

-- 5 chains: root tag, slot, name, line, column, operands, steps, tail tag, operator
abbrev pub root_of : ℕ → ℕ → ℕ → ℕ → ℕ → Root
root_of tag slot named line column =
    if eqb tag 1 then Root.Local (small slot) (name named)
    else (if eqb tag 2 then Root.Temporary
    else (if eqb tag 3 then Root.Named (name named) (position line column)
    else Root.This (position line column)))

abbrev pub tail_of : ℕ → ℕ → Tail
tail_of tag op = if eqb tag 1 then Tail.Read else (if eqb tag 2 then Tail.Assign else Tail.AssignOp (record { 0 = index op }))

abbrev pub chain_of : List ℕ → Chain
chain_of row =
    record {
      root = root_of (word row 0) (word row 1) (word row 2) (word row 3) (word row 4);
      operands = small (word row 5);
      steps = word row 6;
      tail = tail_of (word row 7) (word row 8);
    }

-- 6 steps: tag, flags, operand, name, getter, setter, argument count, line, column, bracket line, bracket column
abbrev pub index_of : List ℕ → Step
index_of row =
    Step.Index (octet (word row 1)) (small (word row 2)) (position (word row 7) (word row 8)) (position (word row 9) (word row 10))

abbrev pub property_of : List ℕ → Step
property_of row =
    Step.Property (octet (word row 1)) (name (word row 3)) (name (word row 4)) (name (word row 5)) (position (word row 7) (word row 8))

abbrev pub method_of : List ℕ → Step
method_of row =
    Step.Method (octet (word row 1)) (name (word row 3)) (octet (word row 6)) (small (word row 2)) (position (word row 7) (word row 8))

abbrev pub step_of : List ℕ → Step
step_of row = if eqb (word row 0) 1 then index_of row else (if eqb (word row 0) 2 then property_of row else method_of row)

-- 7 switches: cases, ranges, default
abbrev pub switch_of : List ℕ → Switch
switch_of row = record { cases = word row 0; ranges = word row 1; default = index (word row 2) }

-- 8 cases: blocks, constant
abbrev pub case_of : List ℕ → Case
case_of row = record { blocks = index (word row 0); constant = record { 0 = index (word row 1) } }

-- 9 ranges: from, to, inclusive, target
abbrev pub range_of : List ℕ → Range
range_of row =
    record { from = signed (word row 0); to = signed (word row 1); inclusive = not (eqb (word row 2) 0); target = index (word row 3) }

-- 10 custom sites: key, state, inputs
abbrev pub site_of : List ℕ → Site
site_of row = record { key = index (word row 0); state = index (word row 1); inputs = word row 2 }

-- 11 inputs: entry, end, slots, literal present, literal
abbrev pub literal_of : ℕ → ℕ → Option ℕ
literal_of present literal = if eqb present 0 then None else Some (index literal)

abbrev pub input_of : List ℕ → Input
input_of row = record { chunk = chunk_of (word row 0) (word row 1) (word row 2); literal = literal_of (word row 3) (word row 4) }

-- 12 functions: name, access, this_type, parameters, entry, end, slots
abbrev pub access_of : ℕ → Access
access_of w = if eqb w 0 then Access.Public else Access.Private

abbrev pub this_of : ℕ → Option ℕ
this_of w = if eqb w 0 then None else Some (index (w - 1))

abbrev pub function_of : List ℕ → Function
function_of row =
    record {
      name = name (word row 0);
      access = access_of (word row 1);
      this_type = this_of (word row 2);
      parameters = word row 3;
      chunk = chunk_of (word row 4) (word row 5) (word row 6);
    }

-- 13 parameters: name
abbrev pub parameter_of : List ℕ → NameIndex
parameter_of row = name (word row 0)

-- ── tables ──

-- the first n rows
abbrev pub cut : ℕ → ℕ → List ℕ → List (List ℕ)
cut width zero table = []
cut width (suc n) table = take width table ∷ cut width n (drop width table)

abbrev pub records_of : {X : Type 0} → ℕ → (List ℕ → X) → ℕ → List ℕ → List X
records_of width of n table = map of (cut width n table)
