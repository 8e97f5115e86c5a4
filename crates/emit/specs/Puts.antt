-- THE CONTRACT of whatever puts bytes into a lent output from a place on: its length stays, and where the bytes fit they stand there, behind what
-- stood before the place, and the answer is the place behind them. What stands behind that is not said: a store may reach further.
use Rattle.std.specs.Prelude.{ℕ, ◌+◌, ◌≤◌, ◌≡◌, List, ◌++◌, length, take}

pub record Puts (bytes entry : List ℕ) (at : ℕ) (exit : List ℕ) (behind : ℕ) : Type 0 where
  pub kept : length exit ≡ length entry
  pub next : at + length bytes ≤ length entry → behind ≡ at + length bytes
  pub stored : at + length bytes ≤ length entry → take (at + length bytes) exit ≡ take at entry ++ bytes
