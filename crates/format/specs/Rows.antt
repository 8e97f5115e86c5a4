-- How each record stands in its table: the words of its row. A word that a tag does not use is 0.
use Rattle.std.specs.Prelude.{ℕ, zero, suc, ◌+◌, Bool, true, false, List, [], ◌∷◌, ◌++◌, length, ℤ, Option, Some, None}
use Rattle.std.specs.Int.{w64}
use Rattle.std.proofs.Common.{of_z}
use Rattle.grammar.specs.declared.Span.{Span}
use Rattle.grammar.specs.Combinators.{Text}
use Rattle.tables.specs.Table.{rows, With}
use Rattle.format.specs.declared.records.NameIndex.{NameIndex}
use Rattle.format.specs.declared.records.Position.{Position}
use Rattle.format.specs.declared.records.Assign.{Assign}
use Rattle.format.specs.declared.records.Root.{Root}
use Rattle.format.specs.declared.records.Tail.{Tail}
use Rattle.format.specs.declared.records.Step.{Step}
use Rattle.format.specs.declared.records.Chain.{Chain}
use Rattle.format.specs.declared.records.Case.{Case}
use Rattle.format.specs.declared.records.Range.{Range}
use Rattle.format.specs.declared.records.Switch.{Switch}
use Rattle.format.specs.declared.records.Input.{Input}
use Rattle.format.specs.declared.records.Site.{Site}
use Rattle.format.specs.declared.records.Access.{Access}
use Rattle.format.specs.declared.records.Function.{Function}
use Rattle.format.specs.Artifact as A

-- the 64 bits of a signed number
abbrev pub bits : ℤ → ℕ
bits z = of_z w64 z

-- a position as its two words, line and column; none is 0 and 0
abbrev pub line : Option Position → ℕ
line None = 0
line (Some at) = at.line

abbrev pub column : Option Position → ℕ
column None = 0
column (Some at) = at.column

-- 1 name ends: end
abbrev pub end_row : ℕ → List ℕ
end_row end = end ∷ []

-- 2 constants: tag, a, b, start, length, items, key start, key length
abbrev pub constant_words : ℕ → ℕ → ℕ → ℕ → ℕ → ℕ → ℕ → ℕ → List ℕ
constant_words tag a b start size items key_start key_size = tag ∷ a ∷ b ∷ start ∷ size ∷ items ∷ key_start ∷ key_size ∷ []

-- where a text stands; nowhere is 0 and 0
abbrev pub nowhere : Span
nowhere = record { start = 0; size = 0 }

-- both words of a pointer's kind: 81 or 82, and the parameter count
abbrev pub kind_tag : A.Kind → ℕ
kind_tag A.normal = 0x81
kind_tag (A.script n) = 0x82

abbrev pub kind_count : A.Kind → ℕ
kind_count A.normal = 0
kind_count (A.script n) = n

-- a constant with its key, if it is a map's: its own row, then the rows of its items
abbrev pub constant_rows : (levels : ℕ) → Span → A.Constant Text levels → List ℕ
constant_rows zero key c = []
constant_rows (suc levels) key A.unit = constant_words 0x00 0 0 0 0 0 key.start key.size
constant_rows (suc levels) key (A.boolean false) = constant_words 0x01 0 0 0 0 0 key.start key.size
constant_rows (suc levels) key (A.boolean true) = constant_words 0x02 0 0 0 0 0 key.start key.size
constant_rows (suc levels) key (A.int n) = constant_words 0x03 (bits n) 0 0 0 0 key.start key.size
constant_rows (suc levels) key (A.float b) = constant_words 0x04 b 0 0 0 0 key.start key.size
constant_rows (suc levels) key (A.char code) = constant_words 0x05 code 0 0 0 0 key.start key.size
constant_rows (suc levels) key (A.str t) = constant_words 0x06 0 0 t.span.start t.span.size 0 key.start key.size
constant_rows (suc levels) key (A.array items) =
    constant_words 0x07 0 0 0 0 (length items) key.start key.size ++ rows (constant_rows levels nowhere) items
constant_rows (suc levels) key (A.map entries) =
    constant_words 0x08 0 0 0 0 (length entries) key.start key.size
    ++ rows (λ entry. constant_rows levels entry.0.span entry.1) entries
constant_rows (suc levels) key (A.blob t) = constant_words 0x09 0 0 t.span.start t.span.size 0 key.start key.size
constant_rows (suc levels) key (A.range from to) = constant_words 0x0A (bits from) (bits to) 0 0 0 key.start key.size
constant_rows (suc levels) key (A.range_inclusive from to) = constant_words 0x0B (bits from) (bits to) 0 0 0 key.start key.size
constant_rows (suc levels) key (A.pointer name curried kind) =
    constant_words 0x0D (kind_tag kind) (kind_count kind) name.span.start name.span.size (length curried) key.start key.size
    ++ rows (constant_rows levels nowhere) curried

-- 3 tokens: start, length
abbrev pub token_row : Text → List ℕ
token_row t = t.span.start ∷ t.span.size ∷ []

-- 4 assigns: start, length, name, start, length, name
abbrev pub assign_row : A.Assign Text → List ℕ
assign_row a =
    a.op_assign.span.start ∷ a.op_assign.span.size ∷ a.op_assign_name.0
    ∷ a.op.span.start ∷ a.op.span.size ∷ a.op_name.0 ∷ []

-- the same of the spans alone
abbrev pub assign_words : Assign → List ℕ
assign_words a =
    a.op_assign.start ∷ a.op_assign.size ∷ a.op_assign_name.0
    ∷ a.op.start ∷ a.op.size ∷ a.op_name.0 ∷ []

-- 5 chains: root tag, slot, name, line, column, operands, steps, tail tag, operator
abbrev pub root_words : Root → List ℕ
root_words (Root.Local slot name) = 1 ∷ slot ∷ name.0 ∷ 0 ∷ 0 ∷ []
root_words Root.Temporary = 2 ∷ 0 ∷ 0 ∷ 0 ∷ 0 ∷ []
root_words (Root.Named name at) = 3 ∷ 0 ∷ name.0 ∷ line at ∷ column at ∷ []
root_words (Root.This at) = 4 ∷ 0 ∷ 0 ∷ line at ∷ column at ∷ []

abbrev pub tail_words : Tail → List ℕ
tail_words Tail.Read = 1 ∷ 0 ∷ []
tail_words Tail.Assign = 2 ∷ 0 ∷ []
tail_words (Tail.AssignOp op) = 3 ∷ op.0 ∷ []

abbrev pub chain_row : Chain → List ℕ
chain_row c = root_words c.root ++ (c.operands ∷ c.steps ∷ tail_words c.tail)

-- 6 steps: tag, flags, operand, name, getter, setter, argument count, line, column, bracket line, bracket column
abbrev pub step_row : Step → List ℕ
step_row (Step.Index flags operand at bracket) =
    1 ∷ flags ∷ operand ∷ 0 ∷ 0 ∷ 0 ∷ 0 ∷ line at ∷ column at ∷ line bracket ∷ column bracket ∷ []
step_row (Step.Property flags name getter setter at) =
    2 ∷ flags ∷ 0 ∷ name.0 ∷ getter.0 ∷ setter.0 ∷ 0 ∷ line at ∷ column at ∷ 0 ∷ 0 ∷ []
step_row (Step.Method flags name argc operand at) =
    3 ∷ flags ∷ operand ∷ name.0 ∷ 0 ∷ 0 ∷ argc ∷ line at ∷ column at ∷ 0 ∷ 0 ∷ []

-- 7 switches: cases, ranges, default
abbrev pub switch_row : Switch → List ℕ
switch_row w = w.cases ∷ w.ranges ∷ w.default ∷ []

-- 8 cases: blocks, constant
abbrev pub case_row : Case → List ℕ
case_row c = c.blocks ∷ c.constant.0 ∷ []

-- 9 ranges: from, to, inclusive, target
abbrev pub yes : Bool → ℕ
yes true = 1
yes false = 0

abbrev pub range_row : Range → List ℕ
range_row r = bits r.from ∷ bits r.to ∷ yes r.inclusive ∷ r.target ∷ []

-- 10 custom sites: key, state, inputs
abbrev pub site_row : Site → List ℕ
site_row s = s.key ∷ s.state ∷ s.inputs ∷ []

-- 11 inputs: entry, end, slots, literal present, literal
abbrev pub literal_words : Option ℕ → List ℕ
literal_words None = 0 ∷ 0 ∷ []
literal_words (Some index) = 1 ∷ index ∷ []

abbrev pub input_row : Input → List ℕ
input_row i = i.chunk.entry ∷ i.chunk.end ∷ i.chunk.slots ∷ literal_words i.literal

-- 12 functions: name, access, this_type, parameters, entry, end, slots
abbrev pub access_word : Access → ℕ
access_word Access.Public = 0
access_word Access.Private = 1

-- as in the file: 0 untyped, else one higher than the index
abbrev pub this_word : Option ℕ → ℕ
this_word None = 0
this_word (Some index) = index + 1

abbrev pub function_row : Function → List ℕ
function_row f =
    f.name.0 ∷ access_word f.access ∷ this_word f.this_type ∷ f.parameters
    ∷ f.chunk.entry ∷ f.chunk.end ∷ f.chunk.slots ∷ []

-- 13 parameters: name
abbrev pub parameter_row : NameIndex → List ℕ
parameter_row name = name.0 ∷ []

-- a record with items: its own row in one table, theirs in another
abbrev pub whole : {X Y : Type 0} → (X → List ℕ) → With X Y → List ℕ
whole row w = row w.whole

abbrev pub items : {X Y : Type 0} → (Y → List ℕ) → With X Y → List ℕ
items row w = rows row w.items

-- the words of all thirteen tables
abbrev pub tables_of : A.Artifact → List (List ℕ)
tables_of a =
    rows end_row a.names.ends
    ∷ rows (constant_rows A.levels nowhere) a.constants
    ∷ rows token_row a.tokens
    ∷ rows assign_row a.assigns
    ∷ rows (whole chain_row) a.chains
    ∷ rows (items step_row) a.chains
    ∷ rows (λ w. switch_row w.whole) a.switches
    ∷ rows (λ w. rows case_row w.cases) a.switches
    ∷ rows (λ w. rows range_row w.ranges) a.switches
    ∷ rows (whole site_row) a.customs
    ∷ rows (items input_row) a.customs
    ∷ rows (whole function_row) a.functions
    ∷ rows (items parameter_row) a.functions
    ∷ []
