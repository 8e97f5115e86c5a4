-- A read within a number: so many groups are read, and the others stand behind them.
use Rattle.std.specs.Prelude.{◌≡◌, ℕ, ◌+◌, ◌-◌, ◌*◌, ◌^◌, ◌<◌, ◌≤◌, List, length}
use Rattle.grammar.specs.declared.Cursor.{Cursor}
use Rattle.grammar.specs.Outcome.{advanced, Outcome, got, refused}
use Rattle.grammar.specs.Number.{groups}

-- the groups still to come stand behind k groups that hold a value
abbrev pub held : ℕ → ℕ → Outcome ℕ → Outcome ℕ
held value k (got more next) = got (value + more * 2 ^ (7 * k)) next
held value k (refused r) = refused r

-- k groups of the number at c are read, and hold a value
pub record Holding (s : List ℕ) (c : Cursor) (value k : ℕ) : Type 0 where
  pub few : k ≤ 9
  pub inside : c.at + k ≤ length s
  pub fits : value < 2 ^ (7 * k)
  pub rest : groups 10 s c ≡ held value k (groups (10 - k) s (advanced c k))
