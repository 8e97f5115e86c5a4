-- What reads a record by the code reads the list of the records, and their rows.
use Prim.Native.Nat.{ℕ}
use mathlib.Core.Path.{◌≡◌, ap, sym}
use mathlib.Core.List.{List}
use Rattle.std.proofs.Common.{Result, Ok, Err}
use Rattle.refusal.specs.declared.Refusal.{Refusal}
use Rattle.grammar.specs.declared.Cursor.{Cursor}
use Rattle.grammar.specs.Outcome.{got, Parser, pure, ◌>>=◌}
use Rattle.grammar.specs.Read.{answer_as}
use Rattle.tables.specs.Table.{Left, records, rowed, row_is, ReadsRows}
use Rattle.tables.proofs.Rows.{left_records}

-- `f` says what is meant by what the code read
module _ {A R : Type 0} (row : A → List ℕ) (p : Parser A) (f : R → A) (s : List ℕ) {converts : R → List ℕ → Type 0}
    (wide : (x : R) (words : List ℕ) → converts x words → words ≡ row (f x)) where
  row_read : (c : Cursor) (r : Result (R × Cursor) Refusal) → p s c ≡ answer_as f r → row_is converts (rowed row p s c) r
  unfolding rowed pure ◌>>=◌
  row_read c (Ok (x, next)) e = λ words is. rw e (ap (λ (l : List ℕ). got l next) (sym (wide x words is)))
  row_read c (Err r) e = rw e

  pub left_reads : {post : Cursor → Result (R × Cursor) Refusal → Type 0} (table places n from : ℕ) (c : Cursor) {width : ℕ} {entry exit : List ℕ} {r : Result (ℕ × Cursor) Refusal} →
      ((s : List ℕ) (p : Parser (List ℕ)) → ReadsRows post converts s p → Left (records table places p n from s c) (λ words. words) width from entry exit r) →
      ((at : Cursor) (x : Result (R × Cursor) Refusal) → post at x → p s at ≡ answer_as f x) →
      Left (records table places p n from s c) row width from entry exit r
  left_reads table places n from c all reads =
      left_records row p s table places n from c _ _ _ _ (all s (rowed row p) (λ at x posts. row_read at x (reads at x posts)))
