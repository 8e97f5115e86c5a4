-- THE CONTRACT of whatever counts bytes from a place on: the place behind them, capped one above the longest file, which stands for every
-- place past the limit, so that no sum can wrap.
use Rattle.std.specs.Prelude.{ℕ, ◌+◌, min, ◌≡◌, List, length}

pub record Counts (bytes : List ℕ) (at behind : ℕ) : Type 0 where
  pub next : behind ≡ min (at + length bytes) 1048577
