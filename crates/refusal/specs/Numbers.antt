-- Document 01's table of refusal numbers: for each refusal its number, its first and its second value. Values not shown are 0.
use Rattle.std.specs.Prelude.{ℕ}
use Rattle.refusal.specs.declared.Place.{Place}
use Rattle.refusal.specs.declared.Place.TheVariants.{Constant, Root, Flags, Step, Tail}
use Rattle.refusal.specs.declared.NamesFault.{NamesFault}
use Rattle.refusal.specs.declared.NamesFault.TheVariants.{Falls, LastEnd, NotUtf8}
use Rattle.refusal.specs.declared.PositionsFault.{PositionsFault}
use Rattle.refusal.specs.declared.Refusal.{Refusal}
use Rattle.refusal.specs.declared.Row.{Row}

abbrev pub row_is : ℕ → ℕ → ℕ → Row
row_is number first second = record { number = number; first = first; second = second }

-- 8 UnknownTag: 1 constant, 2 root, 3 flags, 4 step, 5 tail
abbrev pub place_number : Place → ℕ
place_number Constant = 1
place_number Root = 2
place_number Flags = 3
place_number Step = 4
place_number Tail = 5

-- 11 Names: 1 falls, 2 last end, 3 UTF-8
abbrev pub names_number : NamesFault → ℕ
names_number Falls = 1
names_number LastEnd = 2
names_number NotUtf8 = 3

-- 12 Positions: 1 truncated, 2 overflow, 3 out of order, 4 trailing; earlier address or count
abbrev pub positions_row : PositionsFault → Row
positions_row PositionsFault.Truncated = row_is 12 1 0
positions_row PositionsFault.Overflow = row_is 12 2 0
positions_row (PositionsFault.OutOfOrder earlier) = row_is 12 3 earlier
positions_row (PositionsFault.Trailing count) = row_is 12 4 count

abbrev pub row_of : Refusal → Row
row_of (Refusal.TooLong length) = row_is 1 length 0
row_of Refusal.Truncated = row_is 2 0 0
row_of Refusal.BadMagic = row_is 3 0 0
row_of (Refusal.UnsupportedVersion found supported) = row_is 4 found supported
row_of (Refusal.Abi int float) = row_is 5 int float
row_of Refusal.MalformedVarint = row_is 6 0 0
row_of Refusal.BadUtf8 = row_is 7 0 0
row_of (Refusal.UnknownTag place byte) = row_is 8 (place_number place) byte
row_of Refusal.ConstantTooDeep = row_is 9 0 0
row_of (Refusal.BadIndex place index) = row_is 10 place index
row_of (Refusal.Names fault) = row_is 11 (names_number fault) 0
row_of (Refusal.Positions fault) = positions_row fault
row_of (Refusal.TrailingBytes count) = row_is 13 count 0
row_of (Refusal.Full table) = row_is 14 table 0
row_of (Refusal.BadModel rule) = row_is 15 rule 0
row_of (Refusal.NoRoom needed) = row_is 16 needed 0
row_of (Refusal.NotAscending address earlier) = row_is 17 address earlier
