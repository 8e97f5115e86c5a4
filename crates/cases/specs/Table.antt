-- "Numbers and files to try" of document 01, those marked * in its order, then five about what tempts; `Hold` of proofs/ says that every one holds.
use Rattle.std.specs.Prelude.{ℕ, zero, suc, ◌-◌, ◌^◌, ◌≡◌, List, [], ◌∷◌, ◌++◌, length, replicate, get_or, ℤ, negsuc}
use Rattle.refusal.specs.declared.Refusal.{Refusal}
use Rattle.refusal.specs.declared.PositionsFault.{PositionsFault}
use Rattle.refusal.specs.declared.Place.{Place}
use Rattle.grammar.specs.Outcome.{start, advanced, Outcome, got, refused}
use Rattle.grammar.specs.Number.{number, signed, shortest}
use Rattle.position_table.specs.declared.Site.{Site}
use Rattle.std.specs.Prelude.{Result, Ok, Err, Option, None}
use Rattle.position_table.specs.declared.Position.{Position}
use Rattle.position_table.specs.Table.{checked, resolved}
use Rattle.position_table.specs.Encode.{encoded_bytes}
use Rattle.format.specs.Artifact.{Places, Artifact}
use Rattle.format.specs.File.{read}
use Rattle.format.specs.Rows.{tables_of}

-- what a case says
pub data Case : Type 0 where
  -- these bytes are read as a number with this outcome
  reads : List ℕ → Outcome ℕ → Case
  -- a number is written as these bytes
  written : ℕ → List ℕ → Case
  -- these bytes are read as a signed number with this outcome
  signs : List ℕ → Outcome ℤ → Case
  -- these sites are encoded as these bytes, where they have just the room
  encodes : List Site → List ℕ → Case
  -- a position table checks with this answer
  checks : List ℕ → Result Unit Refusal → Case
  -- an address resolves in a table
  resolves : List ℕ → ℕ → Option Position → Case
  -- an artifact is read to its end, or refused; tables of 100 places each, no step flags
  loads : List ℕ → Outcome Unit → Case
  -- and leaves these words in front of a table, which is counted from 0
  fills : List ℕ → ℕ → List ℕ → Case

abbrev pub ample : Places
ample =
    record {
      names = 100;
      constants = 100;
      tokens = 100;
      assigns = 100;
      chains = 100;
      steps = 100;
      switches = 100;
      cases = 100;
      ranges = 100;
      customs = 100;
      inputs = 100;
      functions = 100;
      parameters = 100;
    }

-- that something was read, and where it ends
abbrev pub forget : {A : Type 0} → Outcome A → Outcome Unit
forget (got v next) = got tt next
forget (refused r) = refused r

-- the rows of a table, none where it was refused
abbrev pub rows_in : Outcome Artifact → ℕ → List ℕ
rows_in (got a next) table = get_or (tables_of a) table []
rows_in (refused r) table = []

abbrev pub Holds : Case → Type 0
Holds (reads bytes outcome) = number 64 bytes start ≡ outcome
Holds (written n bytes) = shortest n ≡ bytes
Holds (signs bytes outcome) = signed bytes start ≡ outcome
Holds (encodes sites bytes) = encoded_bytes sites (replicate (length bytes) 0) ≡ bytes
Holds (checks table answer) = checked table ≡ answer
Holds (resolves table address answer) = resolved table address ≡ answer
Holds (loads bytes outcome) = forget (read ample 0 bytes) ≡ outcome
Holds (fills bytes table words) = rows_in (read ample 0 bytes) table ≡ words

abbrev site : ℕ → ℕ → ℕ → Site
site address line column = record { address = address; line = line; column = column }

-- the table of two sites, and the table whose one entry has line 0
abbrev two : List ℕ
two = 0x02 ∷ 0x00 ∷ 0x01 ∷ 0x01 ∷ 0x05 ∷ 0x02 ∷ 0xAC ∷ 0x02 ∷ []

abbrev unknown : List ℕ
unknown = 0x01 ∷ 0x07 ∷ 0x00 ∷ 0x04 ∷ []

-- the header and nothing else, up to the constants
abbrev front : List ℕ
front = 0x52 ∷ 0x47 ∷ 0x52 ∷ 0x4E ∷ 0x0B ∷ 0x00 ∷ 0x08 ∷ 0x08 ∷ replicate 23 0

-- an artifact whose one constant is the unit under so many arrays of one item
abbrev under : ℕ → List ℕ
under zero = 0x00 ∷ []
under (suc n) = 0x07 ∷ 0x01 ∷ under n

abbrev nested : ℕ → List ℕ
nested n = front ++ ((0x01 ∷ under n) ++ replicate 11 0)

-- an int width of 4, up to caps: not starred, but an error that tempts is to test the widths before caps has arrived
abbrev narrow : List ℕ
narrow = 0x52 ∷ 0x47 ∷ 0x52 ∷ 0x4E ∷ 0x0B ∷ 0x00 ∷ 0x04 ∷ 0x08 ∷ []

-- an artifact whose one token is "+": not starred either, but a reader that leaves the sections after the names zero is ruled out
abbrev token : List ℕ
token = front ++ (0x00 ∷ 0x01 ∷ 0x01 ∷ 0x2B ∷ replicate 10 0)

-- one array of one item, and a switch whose case names constant 1: an inner constant is in no pool that a case indexes
abbrev pool : List ℕ
pool = front ++ (0x01 ∷ 0x07 ∷ 0x01 ∷ 0x00 ∷ 0x00 ∷ 0x00 ∷ 0x00 ∷ 0x01 ∷ 0x01 ∷ 0x00 ∷ 0x01 ∷ [])

-- a chain whose step has neither a tag that is known nor flags within the mask: the flags are judged first
abbrev flagged : List ℕ
flagged = front ++ (0x00 ∷ 0x00 ∷ 0x00 ∷ 0x01 ∷ 0x02 ∷ 0x00 ∷ 0x01 ∷ 0x09 ∷ 0x01 ∷ [])

abbrev pub cases : List Case
cases =
    reads (0x80 ∷ 0x00 ∷ []) (got 0 (advanced start 2))
    ∷ reads (replicate 9 0xFF ++ (0x01 ∷ [])) (got (2 ^ 64 - 1) (advanced start 10))
    ∷ reads (replicate 9 0xFF ++ (0x02 ∷ [])) (refused Refusal.MalformedVarint)
    ∷ reads (replicate 9 0x80) (refused Refusal.Truncated)
    ∷ written 127 (0x7F ∷ [])
    ∷ written 128 (0x80 ∷ 0x01 ∷ [])
    ∷ signs (0x01 ∷ []) (got (negsuc 0) (advanced start 1))
    ∷ signs (shortest (2 ^ 64 - 1)) (got (negsuc (2 ^ 63 - 1)) (advanced start 10))
    ∷ encodes (site 0 1 1 ∷ site 5 2 300 ∷ []) two
    ∷ resolves two 3 None
    ∷ checks (0x02 ∷ 0x05 ∷ 0x01 ∷ 0x01 ∷ 0x00 ∷ 0x02 ∷ 0x02 ∷ []) (Err (Refusal.Positions (PositionsFault.OutOfOrder 5)))
    ∷ checks unknown (Ok tt)
    ∷ resolves unknown 7 None
    ∷ loads (0x52 ∷ 0x47 ∷ 0x52 ∷ 0x4E ∷ 0x0B ∷ 0x00 ∷ 0x08 ∷ 0x08 ∷ replicate 35 0) (got tt (advanced start 43))
    ∷ loads (nested 64) (got tt (advanced start 172))
    ∷ loads (nested 65) (refused Refusal.ConstantTooDeep)
    ∷ loads (narrow ++ replicate 3 0) (refused Refusal.Truncated)
    ∷ loads (narrow ++ replicate 4 0) (refused (Refusal.Abi 4 8))
    ∷ fills token 2 (34 ∷ 1 ∷ [])
    ∷ loads pool (refused (Refusal.BadIndex 41 1))
    ∷ loads flagged (refused (Refusal.UnknownTag Place.Flags 1))
    ∷ []
