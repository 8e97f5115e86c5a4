-- The loop that reads the records of a list: what is done, and what is still to come by the definition.
use Prim.Native.Nat.{ℕ, suc, ◌+◌}
use mathlib.Core.Path.{◌≡◌, refl, sym, ◌∙◌, ap, subst}
use mathlib.Core.List.{List, [], ◌∷◌, ◌++◌, append-nil, append_assoc}
use native.Mathlib.Nat.{add-zero, add_assoc}
use lib.ListN.{length, length-append}
use lib.Seq.{sets}
use Rattle.refusal.specs.declared.Refusal.{Refusal}
use Rattle.grammar.specs.declared.Cursor.{Cursor}
use Rattle.grammar.specs.Outcome.{Outcome, got, refused, Parser, after, pure, ◌>>=◌}
use Rattle.grammar.specs.Combinators.{many}
use Rattle.tables.specs.Table.{rows}
use Rattle.tables.proofs.Stores.{sets-append}

-- records read before those of an outcome
abbrev pub prepended : {A : Type 0} → List A → Outcome (List A) → Outcome (List A)
prepended done (got xs next) = got (done ++ xs) next
prepended done (refused r) = refused r

-- n records are wanted from c on; `done` are read, and so many are left, from `now` on
pub record Listing {A S : Type 0} (next : S → A → S) (p : S → Parser A) (s : List ℕ) (c : Cursor) (n : ℕ) (from : S)
    (done : List A) (now : Cursor) (left : ℕ) (used : S) : Type 0 where
  pub whole : many next p n from s c ≡ prepended done (many next p left used s now)

prepended-none : {A : Type 0} (o : Outcome (List A)) → o ≡ prepended [] o
prepended-none (got xs next) = refl
prepended-none (refused r) = refl

pub listing_none : {A S : Type 0} (next : S → A → S) (p : S → Parser A) (s : List ℕ) (c : Cursor) (n : ℕ) (from : S) →
    Listing next p s c n from [] c n from
listing_none next p s c n from = record { whole = prepended-none _ }

module _ {A S : Type 0} {next : S → A → S} {p : S → Parser A} {s : List ℕ} {c : Cursor} {n : ℕ} {from : S}
    {done : List A} {now : Cursor} {left : ℕ} {used : S} where
  pub listing-more : Listing next p s c n from done now (suc left) used → {x : A} {later : Cursor} → p used s now ≡ got x later →
      Listing next p s c n from (done ++ (x ∷ [])) later left (next used x)
  unfolding many ◌>>=◌ pure
  listing-more g {x} {later} e = record { whole = g.whole ∙ rw e (go (many next p left (next used x) s later)) }
    where
      go : (o : Outcome (List A)) → prepended done (after o (λ xs last. got (x ∷ xs) last)) ≡ prepended (done ++ (x ∷ [])) o
      go (got xs last) = ap (λ (l : List A). got l last) (sym (append_assoc done (x ∷ []) xs))
      go (refused r) = refl

  pub listing-refused : Listing next p s c n from done now (suc left) used → {r : Refusal} → p used s now ≡ refused r →
      many next p n from s c ≡ refused r
  unfolding many ◌>>=◌
  listing-refused g e = g.whole ∙ rw e

pub listing-left : {A S : Type 0} {next : S → A → S} {p : S → Parser A} {s : List ℕ} {c : Cursor} {n : ℕ} {from : S}
    {done : List A} {now : Cursor} {left k : ℕ} {used : S} → Listing next p s c n from done now left used → left ≡ k →
    Listing next p s c n from done now k used
listing-left {next = next} {p} {s} {c} {n} {from} {done} {now} {used = used} g e =
    subst (λ (k : ℕ). Listing next p s c n from done now k used) e g

pub listing-done : {A S : Type 0} {next : S → A → S} {p : S → Parser A} {s : List ℕ} {c : Cursor} {n : ℕ} {from : S}
    {done : List A} {now : Cursor} {used : S} → Listing next p s c n from done now 0 used → many next p n from s c ≡ got done now
unfolding many pure
listing-done {done = done} {now} g = g.whole ∙ ap (λ l. got l now) (append-nil done)

-- the rows of `done` are stored in a table from a word on, and the next goes to `at`
pub record Stored {A : Type 0} (row : A → List ℕ) (entry : List ℕ) (from : ℕ) (done : List A) (t : List ℕ) (at : ℕ) : Type 0 where
  pub is : t ≡ sets entry from (rows row done)
  pub next : at ≡ from + length (rows row done)

pub stored-none : {A : Type 0} (row : A → List ℕ) (entry : List ℕ) (from : ℕ) → Stored row entry from [] entry from
stored-none row entry from = record { is = refl; next = sym (add-zero from) }

rows_snoc : {A : Type 0} (row : A → List ℕ) (done : List A) (x : A) → rows row (done ++ (x ∷ [])) ≡ rows row done ++ row x
rows_snoc row [] x = append-nil (row x)
rows_snoc row (y ∷ done) x = ap (λ (l : List ℕ). row y ++ l) (rows_snoc row done x) ∙ sym (append_assoc (row y) (rows row done) (row x))

pub stored_more : {A : Type 0} {row : A → List ℕ} {entry : List ℕ} {from : ℕ} {done : List A} {t : List ℕ} {at : ℕ} →
    Stored row entry from done t at → (x : A) → Stored row entry from (done ++ (x ∷ [])) (sets t at (row x)) (at + length (row x))
stored_more {row = row} {entry} {from} {done} {t} {at} g x =
    record {
      is = rw (g.is, g.next, rows_snoc row done x) (sym (sets-append entry from (rows row done) (row x)));
      next = rw (g.next, rows_snoc row done x, length-append (rows row done) (row x)) (add_assoc from _ _);
    }
