-- What the answers of this crate say, and what the three tables hold.
use Rattle.std.specs.Prelude.{ℕ, Result, ◌*◌, ◌≡◌}
use mathlib.Core.List.{List}
use Rattle.std.proofs.lemmas.List.Edits.{sets}
use Rattle.refusal.specs.declared.Refusal.{Refusal}
use Rattle.grammar.specs.declared.Cursor.{Cursor}
use Rattle.grammar.specs.Outcome.{Outcome, got, refused}
use Rattle.grammar.specs.Read.{answer_as}
use Rattle.tables.specs.Table.{rows, Used, used_both}
use Rattle.format.specs.declared.records.Switch.{Switch}
use Rattle.format.specs.Artifact.{Cased, UsedCases, count_cases}
use Rattle.format.specs.Rows.{switch_row, case_row, range_row}
use Rattle.switches.specs.declared.Switched.{Switched}

-- the places used of the cases' and the ranges' tables, and of all three
abbrev pub used_cases : ℕ → ℕ → UsedCases
used_cases cases ranges = record { cases = cases; ranges = ranges }

abbrev pub used_all : ℕ → ℕ → ℕ → Used UsedCases
used_all used cases ranges = record { own = used; inner = used_cases cases ranges }

abbrev pub nothing : Used UsedCases
nothing = used_all 0 0 0

-- a switch, and the places used behind its cases and ranges
abbrev pub switch_is : Result ((Switch × (ℕ × ℕ)) × Cursor) Refusal → Outcome (Switch × UsedCases)
switch_is = answer_as (λ k. (k.0, used_cases k.1.0 k.1.1))

abbrev pub cases_behind : UsedCases → Outcome Cased → Outcome (Switch × UsedCases)
cases_behind from (got w next) = got (w.whole, count_cases from w) next
cases_behind from (refused r) = refused r

-- a switch was read, its cases and ranges into their tables behind some places used: the answer, and what they hold where it was got
pub record LeftSwitch (o : Outcome Cased) (cases ranges : ℕ) (case_entry case_exit range_entry range_exit : List ℕ) (r : Result ((Switch × (ℕ × ℕ)) × Cursor) Refusal) : Type 0 where
  pub result : cases_behind (used_cases cases ranges) o ≡ switch_is r
  pub case_table : (w : Cased) (next : Cursor) → o ≡ got w next → case_exit ≡ sets case_entry (cases * 2) (rows case_row w.cases)
  pub range_table : (w : Cased) (next : Cursor) → o ≡ got w next → range_exit ≡ sets range_entry (ranges * 4) (rows range_row w.ranges)

-- the answer of the section: the places used of the three tables
abbrev pub switched_is : Result (Switched × Cursor) Refusal → Outcome (Used UsedCases)
switched_is = answer_as (λ u. used_all u.used u.cases u.ranges)

-- switches were read into three tables, from their fronts: the answer, and what the tables hold where it was got
pub record LeftCases (o : Outcome (List Cased)) (entry exit case_entry case_exit range_entry range_exit : List ℕ) (r : Result (Switched × Cursor) Refusal) : Type 0 where
  pub result : used_both count_cases nothing o ≡ switched_is r
  pub table : (xs : List Cased) (next : Cursor) → o ≡ got xs next → exit ≡ sets entry 0 (rows (λ w. switch_row w.whole) xs)
  pub cases : (xs : List Cased) (next : Cursor) → o ≡ got xs next → case_exit ≡ sets case_entry 0 (rows (λ w. rows case_row w.cases) xs)
  pub ranges : (xs : List Cased) (next : Cursor) → o ≡ got xs next → range_exit ≡ sets range_entry 0 (rows (λ w. rows range_row w.ranges) xs)
