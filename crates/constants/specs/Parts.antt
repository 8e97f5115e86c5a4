-- A constant in three parts, as the code reads it: what stands before its items, the items with or without keys, and what
-- stands behind them. `proofs/Joined.antt` shows that the three are the definition's `constant`.
use Rattle.std.specs.Prelude.{ℕ, Bool, true, false, List, [], ℤ, if◌then◌else◌}
use Rattle.refusal.specs.declared.Refusal.{Refusal}
use Rattle.refusal.specs.declared.Place.{Place}
use Rattle.grammar.specs.declared.Span.{Span}
use Rattle.grammar.specs.Outcome.{Parser, pure, ◌>>=◌, ◌>>◌}
use Rattle.grammar.specs.Combinators.{byte, fixed, Text, check, ◌⇒◌∣◌, unknown, many}
use Rattle.grammar.specs.Number.{number, index, signed}
use Rattle.format.specs.Artifact as A
use Rattle.format.specs.File.{bytes, string, scalar, constant}
use Rattle.format.specs.Rows.{bits, constant_words, nowhere, constant_rows}
use Rattle.constants.specs.declared.heads.Head.{Head}

-- ── before the items: a scalar, a text, or a list's count ──

pub data Front : Type 0 where
  unit : Front
  boolean : Bool → Front
  int : ℤ → Front
  float : ℕ → Front
  char : ℕ → Front
  str : Text → Front
  array : ℕ → Front
  map : ℕ → Front
  blob : Text → Front
  range : Bool → ℤ → ℤ → Front
  pointer : Text → ℕ → Front

abbrev pub int_front : Parser Front
int_front = do
  n ← signed
  pure (int n)

abbrev pub float_front : Parser Front
float_front = do
  word ← fixed 8
  pure (float word)

abbrev pub char_front : Parser Front
char_front = do
  code ← index
  check (scalar code) Refusal.MalformedVarint
  pure (char code)

abbrev pub str_front : Parser Front
str_front = do
  t ← string
  pure (str t)

abbrev pub array_front : Parser Front
array_front = do
  n ← number 64
  pure (array n)

abbrev pub map_front : Parser Front
map_front = do
  n ← number 64
  pure (map n)

abbrev pub blob_front : Parser Front
blob_front = do
  t ← bytes
  pure (blob t)

abbrev pub range_front : Bool → Parser Front
range_front inclusive = do
  from ← signed
  to ← signed
  pure (range inclusive from to)

abbrev pub pointer_front : Parser Front
pointer_front = do
  name ← string
  n ← number 64
  pure (pointer name n)

unfoldable pub front_of : ℕ → Parser Front
front_of =
    0x00 ⇒ pure unit
    ∣ 0x01 ⇒ pure (boolean false)
    ∣ 0x02 ⇒ pure (boolean true)
    ∣ 0x03 ⇒ int_front
    ∣ 0x04 ⇒ float_front
    ∣ 0x05 ⇒ char_front
    ∣ 0x06 ⇒ str_front
    ∣ 0x07 ⇒ array_front
    ∣ 0x08 ⇒ map_front
    ∣ 0x09 ⇒ blob_front
    ∣ 0x0A ⇒ range_front false
    ∣ 0x0B ⇒ range_front true
    ∣ 0x0D ⇒ pointer_front
    ∣ unknown Place.Constant

abbrev pub front : Parser Front
front = do
  tag ← byte
  front_of tag

-- what the code keeps of it: the words of the row that are known, and what follows
abbrev pub single : ℕ → ℕ → ℕ → Head
single tag a b = record { tag = tag; a = a; b = b; span = nowhere; items = 0; keyed = false; pointer = false }

abbrev pub texted : ℕ → Span → Head
texted tag span = record { tag = tag; a = 0; b = 0; span = span; items = 0; keyed = false; pointer = false }

abbrev pub range_tag : Bool → ℕ
range_tag inclusive = if inclusive then 0x0B else 0x0A

abbrev pub head_is : Front → Head
head_is unit = single 0x00 0 0
head_is (boolean false) = single 0x01 0 0
head_is (boolean true) = single 0x02 0 0
head_is (int n) = single 0x03 (bits n) 0
head_is (float word) = single 0x04 word 0
head_is (char code) = single 0x05 code 0
head_is (str t) = texted 0x06 t.span
head_is (array n) = record { tag = 0x07; a = 0; b = 0; span = nowhere; items = n; keyed = false; pointer = false }
head_is (map n) = record { tag = 0x08; a = 0; b = 0; span = nowhere; items = n; keyed = true; pointer = false }
head_is (blob t) = texted 0x09 t.span
head_is (range inclusive from to) = single (range_tag inclusive) (bits from) (bits to)
head_is (pointer name n) = record { tag = 0x0D; a = 0; b = 0; span = name.span; items = n; keyed = false; pointer = true }

unfoldable pub headed : Parser Front → Parser Head
headed p = do
  f ← p
  pure (head_is f)

-- ── the items ──

abbrev pub Item : ℕ → Type 0
Item levels = Text × A.Constant Text levels

-- a key, or none, which is nowhere
unfoldable pub item_key : Bool → Parser Text
item_key true = string
item_key false = pure (record { span = nowhere; bytes = [] })

unfoldable pub item : ℕ → (levels : ℕ) → Bool → ℕ → Parser (Item levels)
item places levels keyed used = do
  key ← item_key keyed
  value ← constant places levels used
  pure (key, value)

abbrev pub item_behind : (levels : ℕ) → ℕ → Item levels → ℕ
item_behind levels used x = A.behind Text levels used x.1

abbrev pub item_rows : (levels : ℕ) → Item levels → List ℕ
item_rows levels x = constant_rows levels x.0.span x.1

unfoldable pub items : ℕ → (levels : ℕ) → Bool → ℕ → ℕ → Parser (List (Item levels))
items places levels keyed n used = many (item_behind levels) (item places levels keyed) n used

-- ── behind the items: the words a and b, which a pointer's kind gives ──

abbrev pub Ab : Type 0
Ab = ℕ × ℕ

abbrev pub script_tail : Parser Ab
script_tail = do
  n ← number 64
  pure (0x82, n)

unfoldable pub kind_of : ℕ → Parser Ab
kind_of = 0x81 ⇒ pure (0x81, 0) ∣ 0x82 ⇒ script_tail ∣ unknown Place.Constant

abbrev pub kind_tail : Parser Ab
kind_tail = do
  tag ← byte
  kind_of tag

abbrev pub tail_of : Head → Parser Ab
tail_of h = if h.pointer then kind_tail else pure (h.a, h.b)

-- the row, once a and b are known
abbrev pub head_row : Head → Span → Ab → List ℕ
head_row h key ab =
    constant_words h.tag ab.0 ab.1 h.span.start h.span.size h.items key.start key.size
