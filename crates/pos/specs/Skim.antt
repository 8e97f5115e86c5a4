-- What skimming says: short entries as the definitions read them, and what is still to be read behind them.
use Rattle.std.specs.Prelude.{◌≡◌, ℕ, ◌+◌, ◌-◌, ◌^◌, ◌<◌, ◌≤◌, Bool, true, List, Ok, Option}
use Rattle.grammar.specs.declared.Cursor.{Cursor}
use Rattle.grammar.specs.Outcome.{advanced, got}
use Rattle.position_table.specs.declared.Position.{Position}
use Rattle.pos.specs.declared.skim.Walk.{Walk}
use Rattle.position_table.specs.Table.{Previous, none, earlier, field, entries, checked, seek, or_none}
use Rattle.pos.specs.Steps.{placed, ends_as}

-- an entry of so many bytes, with its numbers
pub record Whole (s : List ℕ) (c : Cursor) (step line column size : ℕ) : Type 0 where
  pub width : ℕ
  pub first : field s c ≡ got step (advanced c width)
  pub rest : (to : ℕ) → placed to s (advanced c width) ≡ got (record { address = to; line = line; column = column }) (advanced c size)

-- the same, of which the step alone is told
pub record Entry (s : List ℕ) (c : Cursor) (step size : ℕ) : Type 0 where
  pub line : ℕ
  pub column : ℕ
  pub whole : Whole s c step line column size

-- the least step behind the entry before: none for the first, whose address counts from 0
pub data Before : Previous → ℕ → ℕ → Type 0 where
  first : Before none 0 0
  later : (address : ℕ) → Before (earlier address) 1 address

-- a walk at a place, and one before the first entry
abbrev pub walk_at : ℕ → ℕ → ℕ → ℕ → Walk
walk_at at left least room = record { c = record { at = at }; left = left; least = least; room = room }

abbrev pub begins : Cursor → ℕ → ℕ → Walk
begins c count limit = record { c = c; left = count; least = 0; room = limit }

-- what a check still has to read, behind an address
pub record CheckingAt (s : List ℕ) (c : Cursor) (left least address : ℕ) : Type 0 where
  pub previous : Previous
  pub before : Before previous least address
  pub rest : checked s ≡ ends_as s (entries left previous s c)

-- the same of a walk whose limit is 2 ^ 32
pub record Checking (s : List ℕ) (w : Walk) : Type 0 where
  pub room : 0 < w.room
  pub within : w.room ≤ 2 ^ 32
  pub at : CheckingAt s w.c w.left w.least (2 ^ 32 - w.room)

-- a table that is seen to be sound
abbrev pub SoundAt : List ℕ → Bool → Type 0
SoundAt s b = b ≡ true → Ok tt ≡ checked s

-- what resolving still has to read, behind an address
abbrev pub sought : List ℕ → ℕ → Cursor → ℕ → ℕ → Option Position
sought s asked c left address = or_none (seek left asked address s c)

-- a walk that runs leaves both as they are: the address rises by what the room falls
pub record Runs (s : List ℕ) (from count over within : ℕ) (w : Walk) : Type 0 where
  pub fewer : w.left ≤ count
  pub lower : w.room ≤ within
  pub room : 0 < within → 0 < w.room
  pub sound : (address : ℕ) → address + within ≤ 2 ^ 32 → CheckingAt s (record { at = from }) count over address →
      CheckingAt s w.c w.left w.least (address + (within - w.room))
  pub finds : (asked address : ℕ) → address + within ≡ asked → asked ≤ 2 ^ 32 →
      sought s asked (record { at = from }) count address ≡ sought s asked w.c w.left (address + (within - w.room))
