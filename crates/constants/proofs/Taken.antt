-- Runs of bytes that are taken or not.
use Prim.Native.Nat.{ℕ, ◌+◌, ◌≤◌, ◌<◌}
use mathlib.Core.Path.{◌≡◌}
use mathlib.Core.List.{List}
use lib.ListN.{length}
use borrow.Author.Tests.{le-leb, lt-leb}
use Rattle.refusal.specs.declared.Refusal.{Refusal}
use Rattle.grammar.specs.declared.Cursor.{Cursor}
use Rattle.grammar.specs.Outcome.{advanced, got, refused}
use Rattle.grammar.specs.Combinators.{taking}

module _ {A : Type 0} (n : ℕ) (what : List ℕ → ℕ → A) (s : List ℕ) (c : Cursor) where
  pub too_few : length s < c.at + n → taking n what s c ≡ refused Refusal.Truncated
  unfolding taking
  too_few h = rw (lt-leb (c.at + n) (length s) h)

  pub enough-there : c.at + n ≤ length s → taking n what s c ≡ got (what s c.at) (advanced c n)
  unfolding taking
  enough-there h = rw (le-leb (c.at + n) (length s) h)

pub ruleset taken = (too_few, enough-there)
