-- THE DEFINITION OF THE FILE: document 01, "The sections, in file order", section by section, and in each line by line.
-- A parser gives everything that was read or the first refusal with its values. What it needs besides the bytes: the places
-- of the thirteen tables and the mask of the step flags.
use Rattle.std.specs.Prelude.{ℕ, zero, suc, ◌+◌, ◌-◌, ◌^◌, Bool, true, false, not, ◌&&◌, ◌||◌, List, [], ◌∷◌, length, leb, ltb, eqb, if◌then◌else◌, Option, Some, None}
use Rattle.std.specs.Int.Bits.{bit_and}
use Rattle.refusal.specs.declared.Refusal.{Refusal}
use Rattle.refusal.specs.declared.Place.{Place}
use Rattle.refusal.specs.declared.NamesFault.{NamesFault}
use Rattle.grammar.specs.Outcome.{Outcome, refused, Parser, pure, refuse, ◌>>=◌, ◌>>◌}
use Rattle.grammar.specs.Combinators.{byte, fixed, Text, text, place, check, left, room, ◌⇒◌∣◌, unknown, many, file}
use Rattle.grammar.specs.Number.{number, index, small, signed}
use Rattle.utf8.specs.Check.{is_utf8}
use Rattle.std.specs.Prelude.{Result, Ok, Err}
use Rattle.position_table.specs.Table.{checked}
use Rattle.tables.specs.Table.{records, Used, nested, With, count_items}
use Rattle.format.specs.declared.records.NameIndex.{NameIndex}
use Rattle.format.specs.declared.records.Position.{Position}
use Rattle.format.specs.declared.records.Chunk.{Chunk}
use Rattle.format.specs.declared.records.Root.{Root}
use Rattle.format.specs.declared.records.Tail.{Tail}
use Rattle.format.specs.declared.records.Step.{Step}
use Rattle.format.specs.declared.records.Chain.{Chain}
use Rattle.format.specs.declared.records.Case.{Case}
use Rattle.format.specs.declared.records.Range.{Range}
use Rattle.format.specs.declared.records.Input.{Input}
use Rattle.format.specs.declared.records.Site.{Site}
use Rattle.format.specs.declared.records.Access.{Access}
use Rattle.format.specs.declared.records.Function.{Function}
use Rattle.format.specs.Artifact.{Header, Names, Kind, normal, script, Constant, unit, boolean, int, float, char, str, array, map, blob, range, range_inclusive, pointer, behind, levels, Assign, Cased, UsedCases, count_cases, Places, Artifact}

-- ── what stands in several sections ──

-- a count of bytes and the bytes
unfoldable pub bytes : Parser Text
bytes = do
  n ← number 64
  text n

-- a string: a length and that many bytes of UTF-8; the bytes are taken first
unfoldable pub string : Parser Text
string = do
  t ← bytes
  check (is_utf8 t.bytes) Refusal.BadUtf8
  pure t

-- a list whose records are kept in one table: before a record's first byte its table must have a free place
unfoldable pub list : {A : Type 0} → ℕ → ℕ → Parser A → ℕ → Parser (List A)
list table places p used = do
  n ← number 64
  records table places p n used

-- nothing is used yet of the table of records with items, and of the items' table
abbrev pub none : Used ℕ
none = record { own = 0; inner = 0 }

unfoldable pub name_index : Parser NameIndex
name_index = do
  n ← index
  pure (record { 0 = n })

-- a position is two smalls; line 0 means none, whatever the column
abbrev pub placed : ℕ → ℕ → Option Position
placed line column = if eqb line 0 then None else Some (record { line = line; column = column })

unfoldable pub position : Parser (Option Position)
position = do
  line ← small
  column ← small
  pure (placed line column)

-- a chunk is entry, end, and a small slot count
unfoldable pub chunk : Parser Chunk
chunk = do
  entry ← index
  end ← index
  slots ← small
  pure (record { entry = entry; end = end; slots = slots })

-- ── 1. the header ──

-- "RGRN"
abbrev pub magic : List ℕ
magic = 0x52 ∷ 0x47 ∷ 0x52 ∷ 0x4E ∷ []

abbrev pub same_bytes : List ℕ → List ℕ → Bool
same_bytes [] [] = true
same_bytes [] (b ∷ t) = false
same_bytes (a ∷ s) [] = false
same_bytes (a ∷ s) (b ∷ t) = eqb a b && same_bytes s t

-- the debug id is kept as two halves; widths must both be 8, tested after caps is read
unfoldable pub header : Parser Header
header = do
  m ← text 4
  check (same_bytes m.bytes magic) Refusal.BadMagic
  version ← fixed 2
  check (eqb version 11) (Refusal.UnsupportedVersion version 11)
  int_width ← byte
  float_width ← byte
  caps ← fixed 4
  check (eqb int_width 8 && eqb float_width 8) (Refusal.Abi int_width float_width)
  id_low ← fixed 8
  id_high ← fixed 8
  pure (record { caps = caps; id_low = id_low; id_high = id_high })

-- ── 2. the source name: a string ──

-- ── 3. names ──

-- ends never fall
abbrev pub rising : ℕ → List ℕ → Bool
rising before [] = true
rising before (end ∷ ends) = leb before end && rising end ends

-- the last end, or 0
abbrev pub last_end : ℕ → List ℕ → ℕ
last_end before [] = before
last_end before (end ∷ ends) = last_end end ends

-- a count, refused as Truncated when above the bytes left; one end per name; a blob length; the blob; then the rule, in its order
unfoldable pub names : ℕ → Parser Names
names places = do
  n ← number 64
  left n
  ends ← records 1 places index n 0
  all ← bytes
  check (rising 0 ends) (Refusal.Names NamesFault.Falls)
  check (eqb (last_end 0 ends) (length all.bytes)) (Refusal.Names NamesFault.LastEnd)
  check (is_utf8 all.bytes) (Refusal.Names NamesFault.NotUtf8)
  pure (record { ends = ends; blob = all })

-- ── 4. constants ──

-- a Unicode scalar: below 110000, and no surrogate
abbrev pub scalar : ℕ → Bool
scalar code = ltb code 0xD800 || (leb 0xE000 code && ltb code 0x110000)

unfoldable pub kind : Parser Kind
kind = do
  tag ← byte
  (0x81 ⇒ pure normal
      ∣ 0x82 ⇒ (do
        n ← number 64
        pure (script n))
      ∣ unknown Place.Constant) tag

-- a constant at a depth that leaves so many levels: depth goes before Full, and Full before the tag
unfoldable pub constant : ℕ → (levels : ℕ) → ℕ → Parser (Constant Text levels)
constant places zero used = refuse Refusal.ConstantTooDeep
constant places (suc levels) used = do
  room 2 places used
  tag ← byte
  (0x00 ⇒ pure unit
      ∣ 0x01 ⇒ pure (boolean false)
      ∣ 0x02 ⇒ pure (boolean true)
      ∣ 0x03 ⇒ (do
        n ← signed
        pure (int n))
      ∣ 0x04 ⇒ (do
        bits ← fixed 8
        pure (float bits))
      ∣ 0x05 ⇒ (do
        code ← index
        check (scalar code) Refusal.MalformedVarint
        pure (char code))
      ∣ 0x06 ⇒ (do
        t ← string
        pure (str t))
      ∣ 0x07 ⇒ (do
        n ← number 64
        items ← many (behind Text levels) (constant places levels) n (used + 1)
        pure (array items))
      ∣ 0x08 ⇒ (do
        n ← number 64
        entries ← many (λ used entry. behind Text levels used entry.1)
            (λ used. do
              key ← string
              value ← constant places levels used
              pure (key, value)) n (used + 1)
        pure (map entries))
      ∣ 0x09 ⇒ (do
        t ← bytes
        pure (blob t))
      ∣ 0x0A ⇒ (do
        from ← signed
        to ← signed
        pure (range from to))
      ∣ 0x0B ⇒ (do
        from ← signed
        to ← signed
        pure (range_inclusive from to))
      ∣ 0x0D ⇒ (do
        name ← string
        n ← number 64
        curried ← many (behind Text levels) (constant places levels) n (used + 1)
        k ← kind
        pure (pointer name curried k))
      ∣ unknown Place.Constant) tag

unfoldable pub constants : ℕ → Parser (List (Constant Text levels))
constants places = do
  n ← number 64
  many (behind Text levels) (constant places levels) n 0

-- ── 5. operator tokens, then assign records ──

unfoldable pub tokens : ℕ → Parser (List Text)
tokens places = list 3 places string 0

-- token, name index, token, name index
unfoldable pub assign : Parser (Assign Text)
assign = do
  op_assign ← string
  op_assign_name ← name_index
  op ← string
  op_name ← name_index
  pure (record { op_assign = op_assign; op_assign_name = op_assign_name; op = op; op_name = op_name })

unfoldable pub assigns : ℕ → Parser (List (Assign Text))
assigns places = list 4 places assign 0

-- ── 6. chains ──

unfoldable pub root : Parser Root
root = do
  tag ← byte
  (1 ⇒ (do
    slot ← small
    name ← name_index
    pure (Root.Local slot name))
      ∣ 2 ⇒ pure Root.Temporary
      ∣ 3 ⇒ (do
        name ← name_index
        at ← position
        pure (Root.Named name at))
      ∣ 4 ⇒ (do
        at ← position
        pure (Root.This at))
      ∣ unknown Place.Root) tag

-- flags outside the caller's mask are refused before the step tag is judged
unfoldable pub step : ℕ → Parser Step
step mask = do
  tag ← byte
  flags ← byte
  check (eqb (bit_and flags mask) flags) (Refusal.UnknownTag Place.Flags flags)
  (1 ⇒ (do
    operand ← small
    at ← position
    bracket ← position
    pure (Step.Index flags operand at bracket))
      ∣ 2 ⇒ (do
        name ← name_index
        getter ← name_index
        setter ← name_index
        at ← position
        pure (Step.Property flags name getter setter at))
      ∣ 3 ⇒ (do
        name ← name_index
        argc ← byte
        operand ← small
        at ← position
        pure (Step.Method flags name argc operand at))
      ∣ unknown Place.Step) tag

unfoldable pub tail : Parser Tail
tail = do
  tag ← byte
  (1 ⇒ pure Tail.Read
      ∣ 2 ⇒ pure Tail.Assign
      ∣ 3 ⇒ (do
        op ← index
        pure (Tail.AssignOp (record { 0 = op })))
      ∣ unknown Place.Tail) tag

-- a chain is a root, an operand count, steps and a tail
unfoldable pub chain : ℕ → ℕ → ℕ → Parser (With Chain Step)
chain step_places mask used = do
  r ← root
  operands ← small
  steps ← list 6 step_places (step mask) used
  t ← tail
  pure (record { whole = record { root = r; operands = operands; steps = length steps; tail = t }; items = steps })

unfoldable pub chains : ℕ → ℕ → ℕ → Parser (List (With Chain Step))
chains places step_places mask = do
  n ← number 64
  nested count_items 5 places (chain step_places mask) n none

-- ── 7. switches ──

-- blocks index, constant index, tested at once against the number of top constants
unfoldable pub case : ℕ → Parser Case
case tops = do
  blocks ← index
  at ← place
  k ← index
  check (ltb k tops) (Refusal.BadIndex at k)
  pure (record { blocks = blocks; constant = record { 0 = k } })

-- two signed numbers, a byte where nonzero means inclusive, a target
unfoldable pub case_range : Parser Range
case_range = do
  from ← signed
  to ← signed
  inclusive ← byte
  target ← index
  pure (record { from = from; to = to; inclusive = not (eqb inclusive 0); target = target })

-- cases, ranges, a default
unfoldable pub switch : ℕ → ℕ → ℕ → UsedCases → Parser Cased
switch case_places range_places tops used = do
  cases ← list 8 case_places (case tops) used.cases
  ranges ← list 9 range_places case_range used.ranges
  default ← index
  pure (record { whole = record { cases = length cases; ranges = length ranges; default = default }; cases = cases; ranges = ranges })

unfoldable pub switches : ℕ → ℕ → ℕ → ℕ → Parser (List Cased)
switches places case_places range_places tops = do
  n ← number 64
  nested count_cases 7 places (switch case_places range_places tops) n (record { own = 0; inner = record { cases = 0; ranges = 0 } })

-- ── 8. custom syntax ──

-- chunk and literal; literal FFFFFFFF means none
unfoldable pub input : Parser Input
input = do
  c ← chunk
  literal ← index
  pure (record { chunk = c; literal = if eqb literal 0xFFFFFFFF then None else Some literal })

-- key, state, inputs
unfoldable pub site : ℕ → ℕ → Parser (With Site Input)
site input_places used = do
  key ← index
  state ← index
  inputs ← list 11 input_places input used
  pure (record { whole = record { key = key; state = state; inputs = length inputs }; items = inputs })

unfoldable pub customs : ℕ → ℕ → Parser (List (With Site Input))
customs places input_places = do
  n ← number 64
  nested count_items 10 places (site input_places) n none

-- ── 9. the main chunk, then functions ──

-- access 0 or 1, else Truncated
unfoldable pub access : Parser Access
access = do
  n ← number 64
  (0 ⇒ pure Access.Public ∣ 1 ⇒ pure Access.Private ∣ (λ _. refuse Refusal.Truncated)) n

-- 0 untyped, else one higher than the index; wider than that is Truncated
unfoldable pub this_type : Parser (Option ℕ)
this_type = do
  n ← number 64
  check (leb n (2 ^ 32)) Refusal.Truncated
  pure (if eqb n 0 then None else Some (n - 1))

-- name, access, this_type, parameters, chunk
unfoldable pub function : ℕ → ℕ → Parser (With Function NameIndex)
function parameter_places used = do
  name ← name_index
  a ← access
  this ← this_type
  parameters ← list 13 parameter_places name_index used
  c ← chunk
  pure (record { whole = record { name = name; access = a; this_type = this; parameters = length parameters; chunk = c }; items = parameters })

unfoldable pub functions : ℕ → ℕ → Parser (List (With Function NameIndex))
functions places parameter_places = do
  n ← number 64
  nested count_items 12 places (function parameter_places) n none

-- ── 10. code, position table, the end ──

-- what a check of the table says
unfoldable pub sound : Result Unit Refusal → Parser Unit
sound (Ok tt) = pure tt
sound (Err r) = refuse r

-- length 0 means stripped, otherwise the table, all its bytes taken first, is checked
unfoldable pub positions : Parser Text
positions = do
  t ← bytes
  sound (if eqb t.span.size 0 then Ok tt else checked t.bytes)
  pure t

-- ── the whole ──

unfoldable pub artifact : Places → ℕ → Parser Artifact
artifact places mask = do
  h ← header
  source ← string
  ns ← names places.names
  cs ← constants places.constants
  ts ← tokens places.tokens
  os ← assigns places.assigns
  ls ← chains places.chains places.steps mask
  ws ← switches places.switches places.cases places.ranges (length cs)
  us ← customs places.customs places.inputs
  main ← chunk
  fs ← functions places.functions places.parameters
  code ← bytes
  ps ← positions
  pure (record {
    header = h;
    source = source;
    names = ns;
    constants = cs;
    tokens = ts;
    assigns = os;
    chains = ls;
    switches = ws;
    customs = us;
    main = main;
    functions = fs;
    code = code;
    positions = ps;
  })

-- TooLong, an artifact above 1,048,576 bytes, is first of all
unfoldable pub read : Places → ℕ → List ℕ → Outcome Artifact
read places mask s =
    if ltb 1048576 (length s) then refused (Refusal.TooLong (length s)) else file (artifact places mask) s
