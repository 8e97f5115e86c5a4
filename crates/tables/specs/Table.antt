-- A table is a list of words, and a record a row of them. A read stores rows from a word on; what stood elsewhere stays.
use Rattle.std.specs.Prelude.{ℕ, Result, Ok, Err, ◌+◌, ◌-◌, ◌*◌, ◌≡◌, length, replicate, take}
use mathlib.Core.List.{List, [], ◌∷◌, ◌++◌, foldl}
use Rattle.std.proofs.lemmas.List.Edits.{sets}
use Rattle.grammar.specs.declared.Cursor.{Cursor}
use Rattle.grammar.specs.Outcome.{Outcome, got, refused, Parser, pure, ◌>>=◌, ◌>>◌}
use Rattle.grammar.specs.Combinators.{room, many}
use Rattle.refusal.specs.declared.Refusal.{Refusal}
use Rattle.grammar.specs.Read.{answer_as, answer}

-- the rows of a list, one behind the other
abbrev pub rows : {A : Type 0} → (A → List ℕ) → List A → List ℕ
rows row [] = []
rows row (x ∷ xs) = row x ++ rows row xs

-- a cleared table of so many words, with words stored from its front
abbrev pub filled : ℕ → List ℕ → List ℕ
filled size words = sets (replicate size 0) 0 words

-- the first words of a table, and zeros behind them
abbrev pub front : ℕ → List ℕ → List ℕ
front n t = take n t ++ replicate (length t - n) 0

abbrev pub used_behind : {A : Type 0} → ℕ → Outcome (List A) → Outcome ℕ
used_behind from (got xs next) = got (from + length xs) next
used_behind from (refused r) = refused r

-- a list was read into a table behind some places used: the answer, and what the table holds where it was got
pub record Left {A : Type 0} (o : Outcome (List A)) (row : A → List ℕ) (width from : ℕ) (entry exit : List ℕ) (r : Result (ℕ × Cursor) Refusal) : Type 0 where
  pub result : used_behind from o ≡ answer r
  pub table : (xs : List A) (next : Cursor) → o ≡ got xs next → exit ≡ sets entry (from * width) (rows row xs)

-- n records of a list whose records are kept in one table: before a record's first byte its table must have a free place
unfoldable pub records : {A : Type 0} → ℕ → ℕ → Parser A → ℕ → ℕ → Parser (List A)
records table places p n used =
    many (λ used _. used + 1)
    (λ used. do
      room table places used
      p) n used

-- the parser of a record's row
unfoldable pub rowed : {A : Type 0} → (A → List ℕ) → Parser A → Parser (List ℕ)
rowed row p = p >>= (λ x. pure (row x))

-- of a record that was read each row that it may be converted to, or why it was refused
abbrev pub row_is : {R : Type 0} → (R → List ℕ → Type 0) → Outcome (List ℕ) → Result (R × Cursor) Refusal → Type 0
row_is converts o (Ok (x, next)) = (row : List ℕ) → converts x row → o ≡ got row next
row_is converts o (Err r) = o ≡ refused r

-- what reads a record reads at each place what the parser of its row tells
abbrev pub ReadsRows : {R : Type 0} → (Cursor → Result (R × Cursor) Refusal → Type 0) → (R → List ℕ → Type 0) → List ℕ → Parser (List ℕ) → Type 0
ReadsRows post converts s p = (c : Cursor) (r : _) → post c r → row_is converts (p s c) r

-- ── records with items that stand in tables of their own ──

-- the places used in a table, and what is used in the tables of its records' items
pub record Used (S : Type 0) : Type 0 where
  pub own : ℕ
  pub inner : S

abbrev pub behind_one : {A S : Type 0} → (S → A → S) → Used S → A → Used S
behind_one next used x = record { own = used.own + 1; inner = next used.inner x }

-- n such records: before a record's first byte its table must have a free place; `p` reads one behind what its items' tables hold
unfoldable pub nested : {A S : Type 0} → (S → A → S) → ℕ → ℕ → (S → Parser A) → ℕ → Used S → Parser (List A)
nested next table places p n used =
    many (behind_one next)
    (λ used. do
      room table places used.own
      p used.inner) n used

-- a record and its items
pub record With (A B : Type 0) : Type 0 where
  pub whole : A
  pub items : List B

-- items of one table: as many places as there are
abbrev pub count_items : {A B : Type 0} → ℕ → With A B → ℕ
count_items used w = used + length w.items

-- a record without its items, and the places used of their table behind them
abbrev pub packed : {A B : Type 0} → ℕ → Outcome (With A B) → Outcome (A × ℕ)
packed from (got w next) = got (w.whole, from + length w.items) next
packed from (refused r) = refused r

-- one record with items was read, the items into their table behind some places used: the answer, and what the table holds where it was got
pub record LeftOne {A B : Type 0} (o : Outcome (With A B)) (row : B → List ℕ) (width from : ℕ) (entry exit : List ℕ) (r : Result ((A × ℕ) × Cursor) Refusal) : Type 0 where
  pub result : packed from o ≡ answer r
  pub table : (w : With A B) (next : Cursor) → o ≡ got w next → exit ≡ sets entry (from * width) (rows row w.items)

-- the answer of a read of such records: the places used of both tables, and the next place in the file
abbrev pub nested_is : Result ((ℕ × ℕ) × Cursor) Refusal → Outcome (Used ℕ)
nested_is = answer_as (λ used. record { own = used.0; inner = used.1 })

abbrev pub used_both : {A S : Type 0} → (S → A → S) → Used S → Outcome (List A) → Outcome (Used S)
used_both next from (got xs last) = got (foldl (behind_one next) from xs) last
used_both next from (refused r) = refused r

-- such records were read into both tables, from their fronts: the answer, and what the tables hold where it was got
pub record LeftBoth {A B : Type 0} (o : Outcome (List (With A B))) (row : A → List ℕ) (item_row : B → List ℕ)
    (entry exit item_entry item_exit : List ℕ) (r : Result ((ℕ × ℕ) × Cursor) Refusal) : Type 0 where
  pub result : used_both count_items (record { own = 0; inner = 0 }) o ≡ nested_is r
  pub table : (xs : List (With A B)) (next : Cursor) → o ≡ got xs next → exit ≡ sets entry 0 (rows (λ w. row w.whole) xs)
  pub items : (xs : List (With A B)) (next : Cursor) → o ≡ got xs next → item_exit ≡ sets item_entry 0 (rows (λ w. rows item_row w.items) xs)
