-- What the answer of a list tells where it was got: its records, and the places that they use.
use Rattle.std.proofs.Common.{◌≡◌, ◌∙◌, ℕ, ◌+◌, Result, Ok, Err, refl, arith, zero-add}
use mathlib.Core.List.{List, [], ◌∷◌, foldl}
use lib.ListN.{length}
use Rattle.refusal.specs.declared.Refusal.{Refusal}
use Rattle.grammar.specs.declared.Cursor.{Cursor}
use Rattle.grammar.specs.Outcome.{Outcome, got, refused}
use Rattle.grammar.proofs.Read.{Got, told, told_got, told_refused}
use Rattle.tables.specs.Table.{Used, With, behind_one, count_items, used_behind, used_both, Left, LeftBoth}

-- records of one table
module _ {A : Type 0} {o : Outcome (List A)} {row : A → List ℕ} {width : ℕ} {entry exit : List ℕ} {r : Result (ℕ × Cursor) Refusal} (left : Left o row width 0 entry exit r) where
  counted : (o : Outcome (List A)) → told length o ≡ used_behind 0 o
  counted (got xs next) = rw (zero-add (length xs))
  counted (refused e) = refl

  pub list-got : {used : ℕ} {next : Cursor} → r ≡ Ok (used, next) → Got o next (λ xs. length xs ≡ used)
  list-got = told_got length (λ used. used) o (counted o ∙ left.result)

  pub list-refused : {why : Refusal} → r ≡ Err why → o ≡ refused why
  list-refused = told_refused length (λ used. used) o (counted o ∙ left.result)

-- records with items: as many as there are, and what their items use
pub behind-all : {A S : Type 0} (next : S → A → S) (own : ℕ) (inner : S) (xs : List A) →
    foldl (behind_one next) (record { own = own; inner = inner }) xs ≡ record { own = own + length xs; inner = foldl next inner xs }
behind-all next own inner [] = let e : own + 0 ≡ own = omega arith in rw e
behind-all next own inner (x ∷ xs) =
    let e : own + 1 + length xs ≡ own + length (x ∷ xs) = omega arith in
    behind-all next (own + 1) (next inner x) xs ∙ rw e

abbrev pub used_for : {A S : Type 0} → (S → A → S) → S → List A → Used S
used_for next from xs = record { own = length xs; inner = foldl next from xs }

pub used-both : {A S : Type 0} (next : S → A → S) (from : S) (o : Outcome (List A)) →
    told (used_for next from) o ≡ used_both next (record { own = 0; inner = from }) o
used-both next from (got xs last) = rw (behind-all next 0 from xs, zero-add (length xs))
used-both next from (refused r) = refl

abbrev pub both_of : ℕ × ℕ → Used ℕ
both_of used = record { own = used.0; inner = used.1 }

module _ {A B : Type 0} {o : Outcome (List (With A B))} {row : A → List ℕ} {item_row : B → List ℕ} {entry exit item_entry item_exit : List ℕ}
    {r : Result ((ℕ × ℕ) × Cursor) Refusal} (left : LeftBoth o row item_row entry exit item_entry item_exit r) where
  pub both-got : {used : ℕ × ℕ} {next : Cursor} → r ≡ Ok (used, next) → Got o next (λ xs. used_for count_items 0 xs ≡ both_of used)
  both-got = told_got (used_for count_items 0) both_of o (used-both count_items 0 o ∙ left.result)

  pub both-refused : {why : Refusal} → r ≡ Err why → o ≡ refused why
  both-refused = told_refused (used_for count_items 0) both_of o (used-both count_items 0 o ∙ left.result)
