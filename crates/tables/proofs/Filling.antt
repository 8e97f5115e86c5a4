-- The loop that reads the records of a list into one table, for any parser, row and width.
use Prim.Native.Nat.{ℕ, suc, ◌+◌, ◌*◌, ◌-◌, ◌≤◌, ◌<◌}
use mathlib.Core.Path.{◌≡◌, refl, sym, ◌∙◌, ap, subst}
use mathlib.Core.List.{List, [], ◌∷◌, ◌++◌}
use native.Mathlib.Nat.{add-zero, add-mul, one-mul}
use native.Mathlib.Omega.{arith}
use lib.ListN.{length, length-append}
use lib.Seq.{sets, length-sets}
use borrow.Author.Tests.{lt-ltb, le-ltb}
use Rattle.refusal.specs.declared.Refusal.{Refusal}
use Rattle.grammar.specs.declared.Cursor.{Cursor}
use Rattle.grammar.specs.Outcome.{Outcome, got, refused, Parser, pure, refuse, ◌>>=◌, ◌>>◌}
use Rattle.grammar.specs.Combinators.{check, room, many}
use Rattle.std.proofs.Common.{Ok, Err}
use Rattle.tables.specs.Table.{Left, records}
use Rattle.tables.proofs.Listing.{Listing, listing_none, listing-more, listing-refused, listing-left, listing-done, Stored, stored-none, stored_more}

-- a record behind the test for its place
module _ {A : Type 0} (table places : ℕ) (p : Parser A) (used : ℕ) (s : List ℕ) (c : Cursor) where
  pub placed-full : places ≤ used → (room table places used >> p) s c ≡ refused (Refusal.Full table)
  unfolding room check ◌>>=◌ refuse
  placed-full h = rw (le-ltb used places h)

  pub placed-free : used < places → (room table places used >> p) s c ≡ p s c
  unfolding room check ◌>>=◌ pure
  placed-free h = rw (lt-ltb used places h)

-- n records are wanted behind `from` places; some are read and stored, and so many are left
pub record Filling {A : Type 0} (table places : ℕ) (p : Parser A) (row : A → List ℕ) (width : ℕ) (s : List ℕ) (c : Cursor) (n from : ℕ)
    (entry t : List ℕ) (now : Cursor) (left used : ℕ) : Type 0 where
  pub done : List A
  pub listing : Listing (λ used _. used + 1) (λ used. room table places used >> p) s c n from done now left used
  pub stored : Stored row entry (from * width) done t (used * width)
  pub counts : used ≡ from + length done
  pub same : length t ≡ length entry

pub filling-none : {A : Type 0} (table places : ℕ) (p : Parser A) (row : A → List ℕ) (width : ℕ) (s : List ℕ) (c : Cursor) (n from : ℕ) (entry : List ℕ) →
    Filling table places p row width s c n from entry entry c n from
filling-none table places p row width s c n from entry =
    record { done = []; listing = listing_none _ _ s c n from; stored = stored-none row entry (from * width); counts = sym (add-zero from); same = refl }

module _ {A : Type 0} {table places : ℕ} {p : Parser A} {row : A → List ℕ} {width : ℕ} {s : List ℕ} {c : Cursor} {n from : ℕ}
    {entry t : List ℕ} {now : Cursor} {left used : ℕ} (g : Filling table places p row width s c n from entry t now left used) where
  -- one more is wanted
  one_left : 0 < left → Listing (λ used _. used + 1) (λ used. room table places used >> p) s c n from g.done now (suc (left - 1)) used
  one_left h = listing-left g.listing (omega arith)

  pub filling-full : 0 < left → places ≤ used → records table places p n from s c ≡ refused (Refusal.Full table)
  unfolding records
  filling-full h full = listing-refused (one_left h) (placed-full table places p used s now full)

  pub filling-refused : 0 < left → used < places → {r : Refusal} → p s now ≡ refused r → records table places p n from s c ≡ refused r
  unfolding records
  filling-refused h free e = listing-refused (one_left h) (placed-free table places p used s now free ∙ e)

  pub filling-more : 0 < left → used < places → {x : A} {later : Cursor} → p s now ≡ got x later → length (row x) ≡ width →
      Filling table places p row width s c n from entry (sets t (used * width) (row x)) later (left - 1) (used + 1)
  filling-more h free {x} e wide =
      record {
        done = g.done ++ (x ∷ []);
        listing = listing-more (one_left h) (placed-free table places p used s now free ∙ e);
        stored = subst (Stored row entry (from * width) (g.done ++ (x ∷ [])) (sets t (used * width) (row x))) next_word (stored_more g.stored x);
        counts = rw (length-append g.done (x ∷ [])) (omega (arith, g.counts));
        same = length-sets t (used * width) (row x) ∙ g.same;
      }
    where
      next_word : used * width + length (row x) ≡ (used + 1) * width
      next_word = rw wide (sym (add-mul used 1 width ∙ ap (λ (k : ℕ). used * width + k) (one-mul width)))

-- none is left
pub filling-done : {A : Type 0} {table places : ℕ} {p : Parser A} {row : A → List ℕ} {width : ℕ} {s : List ℕ} {c : Cursor} {n from : ℕ}
    {entry t : List ℕ} {now : Cursor} {left used : ℕ} → Filling table places p row width s c n from entry t now left used → left ≡ 0 →
    Left (records table places p n from s c) row width from entry t (Ok (used, now))
unfolding records
filling-done {table = table} {places} {p} {s = s} {c} {n} {from} {now = now} g e =
    record {
      result = rw (all, g.counts);
      table = λ xs next is. let same : g.done ≡ xs = cc (all, is) in rw (← same) g.stored.is;
    }
  where
    all : many (λ used _. used + 1) (λ used. room table places used >> p) n from s c ≡ got g.done now
    all = listing-done (listing-left g.listing e)

-- a refusal says nothing of the table
pub left-refused : {A : Type 0} {o : Outcome (List A)} {row : A → List ℕ} {width from : ℕ} {entry exit : List ℕ} {r : Refusal} →
    o ≡ refused r → Left o row width from entry exit (Err r)
left-refused e = record { result = rw e; table = λ xs next is. absurd (never (e) is) }
  where
    never : {A : Type 0} {o : Outcome (List A)} {r : Refusal} {xs : List A} {next : Cursor} → o ≡ refused r → o ≡ got xs next → ⊥
    never a b = let z : ◌≡◌ {A = ℕ} 0 1 = cc in omega arith
