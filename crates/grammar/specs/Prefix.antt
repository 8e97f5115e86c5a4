-- The prefix law: what a parser answers on a front of the bytes, beside what it answers on all of them.
use Rattle.std.specs.Prelude.{ℕ, ◌≤◌, ◌≡◌, ◌⊎◌, List, ◌++◌, length}
use Rattle.refusal.specs.declared.Refusal.{Refusal}
use Rattle.grammar.specs.declared.Cursor.{Cursor}
use Rattle.grammar.specs.Outcome.{Outcome, got, refused, Parser}

-- what was got ends behind where it began, and within the bytes
abbrev pub Within : {A : Type 0} → Cursor → ℕ → Outcome A → Type 0
Within c len (got v next) = (c.at ≤ next.at) × (next.at ≤ len)
Within c len (refused r) = Unit

-- on a front: Truncated, or the same as on the whole
abbrev pub Front : {A : Type 0} → Outcome A → Outcome A → Type 0
Front o whole = (o ≡ refused Refusal.Truncated) ⊎ (whole ≡ o)

pub record Whole {A : Type 0} (p : Parser A) : Type 0 where
  pub inside : (s : List ℕ) (c : Cursor) → c.at ≤ length s → Within c (length s) (p s c)
  pub front : (s t : List ℕ) (c : Cursor) → c.at ≤ length s → Front (p s c) (p (s ++ t) c)
