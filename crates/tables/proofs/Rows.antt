-- A list that is read by the rows of its records is the list of the records.
use Prim.Native.Nat.{ℕ, zero, suc, ◌+◌, ◌*◌}
use mathlib.Core.Path.{◌≡◌, refl, sym, ◌∙◌, ap}
use mathlib.Core.Bool.{Bool, true, false}
use mathlib.Core.List.{List, [], ◌∷◌, ◌++◌, map}
use lib.Dec.{ltb}
use lib.Seq.{sets}
use Rattle.refusal.specs.declared.Refusal.{Refusal}
use Rattle.grammar.specs.declared.Cursor.{Cursor}
use Rattle.grammar.specs.Outcome.{Outcome, got, refused, Parser, after, pure, refuse, ◌>>=◌}
use Rattle.grammar.specs.Combinators.{check, room, many}
use Rattle.std.proofs.Common.{Result, Ok, Err}
use Rattle.std.proofs.lemmas.List.{length-map}
use Rattle.tables.specs.Table.{rows, used_behind, Left, records, rowed, row_is, ReadsRows}
use Rattle.grammar.specs.Read.{answer}

abbrev each_row : {A : Type 0} → (A → List ℕ) → Outcome (List A) → Outcome (List (List ℕ))
each_row row (got xs next) = got (map row xs) next
each_row row (refused r) = refused r

rows_each : {A : Type 0} (row : A → List ℕ) (xs : List A) → rows (λ r. r) (map row xs) ≡ rows row xs
rows_each row [] = refl
rows_each row (x ∷ xs) = ap (λ (l : List ℕ). row x ++ l) (rows_each row xs)

module _ {A : Type 0} (row : A → List ℕ) (p : Parser A) (s : List ℕ) (table places : ℕ) where
  abbrev Same : ℕ → ℕ → Cursor → Type 0
  Same n used c = records table places (rowed row p) n used s c ≡ each_row row (records table places p n used s c)

  records_each : (n used : ℕ) (c : Cursor) → Same n used c
  unfolding records many rowed room check pure refuse ◌>>=◌
  records_each zero used c = refl
  records_each (suc n) used c = placed (λ next. records_each n (used + 1) next) (ltb used places)
    where
      one_more : (x : A) (o : Outcome (List A)) →
          after (each_row row o) (λ ys last. got (row x ∷ ys) last) ≡ each_row row (after o (λ xs last. got (x ∷ xs) last))
      one_more x (got xs last) = refl
      one_more x (refused r) = refl

      read : ((next : Cursor) → Same n (used + 1) next) → (o : Outcome A) →
          after (after o (λ x next. got (row x) next)) (λ y next. after (records table places (rowed row p) n (used + 1) s next) (λ ys last. got (y ∷ ys) last))
          ≡ each_row row (after o (λ x next. after (records table places p n (used + 1) s next) (λ xs last. got (x ∷ xs) last)))
      read same (got x next) = rw (same next) (one_more x (records table places p n (used + 1) s next))
      read same (refused r) = refl

      placed : ((next : Cursor) → Same n (used + 1) next) → (b : Bool) →
          after (after (check b (Refusal.Full table) s c) (λ _ next. rowed row p s next)) (λ y next. after (records table places (rowed row p) n (used + 1) s next) (λ ys last. got (y ∷ ys) last))
          ≡ each_row row (after (after (check b (Refusal.Full table) s c) (λ _ next. p s next)) (λ x next. after (records table places p n (used + 1) s next) (λ xs last. got (x ∷ xs) last)))
      placed same true = read same (p s c)
      placed same false = refl

-- what reads each record's row reads the list of the records
module _ {A : Type 0} (row : A → List ℕ) (p : Parser A) (s : List ℕ) (table places n from : ℕ) (c : Cursor) (width : ℕ) (entry exit : List ℕ)
    (r : Result (ℕ × Cursor) Refusal) where
  pub left_records :
      Left (records table places (rowed row p) n from s c) (λ r. r) width from entry exit r → Left (records table places p n from s c) row width from entry exit r
  left_records l =
      record {
        result = counted (records table places p n from s c) ∙ ap (λ o. used_behind from o) (sym same) ∙ l.result;
        table = λ xs next is. l.table (map row xs) next (same ∙ rw is) ∙ ap (λ ws. sets entry (from * width) ws) (rows_each row xs);
      }
    where
      same : records table places (rowed row p) n from s c ≡ each_row row (records table places p n from s c)
      same = records_each row p s table places n from c

      counted : (o : Outcome (List A)) → used_behind from o ≡ used_behind from (each_row row o)
      counted (got xs next) = rw (length-map xs row)
      counted (refused r) = refl

-- a row that is read as it is
pub reads_rows : (post : Cursor → Result (List ℕ × Cursor) Refusal → Type 0) (s : List ℕ) (q : Parser (List ℕ)) →
    ((c : Cursor) (r : Result (List ℕ × Cursor) Refusal) → post c r → q s c ≡ answer r) → ReadsRows post (λ x row. row ≡ x) s q
reads_rows post s q tells c r holds = as_row r (tells c r holds)
  where
    as_row : (r : Result (List ℕ × Cursor) Refusal) → q s c ≡ answer r → row_is (λ x row. row ≡ x) (q s c) r
    as_row (Ok (x, next)) e = λ row same. rw same e
    as_row (Err why) e = e
