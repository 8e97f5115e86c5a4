-- The loop that reads records with items into their table, for any parser, row and width; the items' tables are kept beside it by `Stored`.
use Prim.Native.Nat.{ℕ, suc, ◌+◌, ◌*◌, ◌-◌, ◌≤◌, ◌<◌}
use mathlib.Core.Path.{◌≡◌, refl, sym, ◌∙◌, ap, subst}
use mathlib.Core.List.{List, [], ◌∷◌, ◌++◌, foldl, foldl-append}
use native.Mathlib.Nat.{zero-add, add-mul, one-mul}
use native.Mathlib.Omega.{arith}
use lib.ListN.{length, length-append}
use lib.Seq.{sets, length-sets}
use Rattle.refusal.specs.declared.Refusal.{Refusal}
use Rattle.grammar.specs.declared.Cursor.{Cursor}
use Rattle.grammar.specs.Outcome.{Outcome, got, refused, Parser, ◌>>◌}
use Rattle.grammar.specs.Combinators.{room}
use Rattle.tables.specs.Table.{rows, behind_one, nested}
use Rattle.tables.proofs.Listing.{Listing, listing_none, listing-more, listing-refused, listing-left, listing-done, Stored, stored-none, stored_more}
use Rattle.tables.proofs.Filling.{placed-full, placed-free}

-- rows of one width
pub length-rows : {A : Type 0} (row : A → List ℕ) (width : ℕ) → ((x : A) → length (row x) ≡ width) → (xs : List A) → length (rows row xs) ≡ length xs * width
length-rows row width wide [] = omega arith
length-rows row width wide (x ∷ xs) =
    length-append (row x) (rows row xs) ∙ rw (wide x, length-rows row width wide xs) (omega arith)

-- rows of records that take so many places each
module _ {X : Type 0} (row : X → List ℕ) (takes : X → ℕ) (width : ℕ) (each : (x : X) → length (row x) ≡ takes x * width) where
  words-behind : (from : ℕ) (xs : List X) → from * width + length (rows row xs) ≡ foldl (λ n x. n + takes x) from xs * width
  words-behind from [] = omega arith
  words-behind from (x ∷ xs) =
      ap (λ (n : ℕ). from * width + n) (length-append (row x) (rows row xs) ∙ rw (each x))
      ∙ regroup from (takes x) (length (rows row xs))
      ∙ words-behind (from + takes x) xs
    where
      regroup : (a b c : ℕ) → a * width + (b * width + c) ≡ (a + b) * width + c
      regroup a b c = rw (add-mul a b width) (omega arith)

  pub words-of : (xs : List X) → length (rows row xs) ≡ foldl (λ n x. n + takes x) 0 xs * width
  words-of xs = let none : 0 * width ≡ 0 = omega arith in rw (none, zero-add (length (rows row xs))) at (words-behind 0 xs)

-- n records are wanted; some are read and stored, and so many are left
pub record Nesting {A S : Type 0} (next : S → A → S) (table places : ℕ) (p : S → Parser A) (row : A → List ℕ) (width : ℕ) (s : List ℕ) (c : Cursor)
    (n : ℕ) (from : S) (entry t : List ℕ) (now : Cursor) (left own : ℕ) (inner : S) : Type 0 where
  pub done : List A
  pub listing : Listing (behind_one next) (λ used. room table places used.own >> p used.inner) s c n (record { own = 0; inner = from }) done now left (record { own = own; inner = inner })
  pub stored : Stored row entry 0 done t (own * width)
  pub used : foldl (behind_one next) (record { own = 0; inner = from }) done ≡ record { own = own; inner = inner }
  pub same : length t ≡ length entry

unfoldable pub nesting-none : {A S : Type 0} (next : S → A → S) (table places : ℕ) (p : S → Parser A) (row : A → List ℕ) (width : ℕ) (s : List ℕ) (c : Cursor)
    (n : ℕ) (from : S) (entry : List ℕ) → Nesting next table places p row width s c n from entry entry c n 0 from
nesting-none next table places p row width s c n from entry =
    record { done = []; listing = listing_none _ _ s c n _; stored = nothing; used = refl; same = refl }
  where
    nothing : Stored row entry 0 [] entry (0 * width)
    nothing = let e : 0 ≡ 0 * width = omega arith in subst (Stored row entry 0 [] entry) e (stored-none row entry 0)

module _ {A S : Type 0} {next : S → A → S} {table places : ℕ} {p : S → Parser A} {row : A → List ℕ} {width : ℕ} {s : List ℕ} {c : Cursor}
    {n : ℕ} {from : S} {entry t : List ℕ} {now : Cursor} {left own : ℕ} {inner : S}
    (g : Nesting next table places p row width s c n from entry t now left own inner) where
  -- what is wanted, by the definition
  abbrev wanted : Outcome (List A)
  wanted = nested next table places p n (record { own = 0; inner = from }) s c

  pub one_left : 0 < left → left ≡ suc (left - 1)
  one_left h = omega arith

  pub nesting-full : 0 < left → places ≤ own → wanted ≡ refused (Refusal.Full table)
  unfolding nested
  nesting-full h full = listing-refused (listing-left g.listing (one_left h)) (placed-full table places (p inner) own s now full)

  pub nesting-refused : 0 < left → own < places → {r : Refusal} → p inner s now ≡ refused r → wanted ≡ refused r
  unfolding nested
  nesting-refused h free e = listing-refused (listing-left g.listing (one_left h)) (placed-free table places (p inner) own s now free ∙ e)

  unfoldable pub nesting-more : 0 < left → own < places → {x : A} {later : Cursor} → p inner s now ≡ got x later → length (row x) ≡ width →
      Nesting next table places p row width s c n from entry (sets t (own * width) (row x)) later (left - 1) (own + 1) (next inner x)
  nesting-more h free {x} e wide =
      record {
        done = g.done ++ (x ∷ []);
        listing = listing-more (listing-left g.listing (one_left h)) (placed-free table places (p inner) own s now free ∙ e);
        stored = subst (Stored row entry 0 (g.done ++ (x ∷ [])) (sets t (own * width) (row x))) next_word (stored_more g.stored x);
        used = foldl-append (behind_one next) _ g.done (x ∷ []) ∙ ap (λ u. behind_one next u x) g.used;
        same = length-sets t (own * width) (row x) ∙ g.same;
      }
    where
      next_word : own * width + length (row x) ≡ (own + 1) * width
      next_word = rw wide (sym (add-mul own 1 width ∙ ap (λ (k : ℕ). own * width + k) (one-mul width)))

  -- none is left
  pub nesting-done : left ≡ 0 → wanted ≡ got g.done now
  unfolding nested
  nesting-done e = listing-done (listing-left g.listing e)
