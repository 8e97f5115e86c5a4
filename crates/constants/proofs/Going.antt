-- The loop over the items of a list: some are read and stored, and the others are still to come by the definition.
use Prim.Native.Nat.{ℕ, suc, ◌+◌, ◌*◌, ◌-◌, ◌≤◌, ◌<◌}
use mathlib.Core.Path.{◌≡◌, refl, sym, ◌∙◌, ap, subst}
use mathlib.Core.Bool.{Bool}
use mathlib.Core.List.{List, [], ◌∷◌, ◌++◌, foldl}
use native.Mathlib.Omega.{arith}
use lib.ListN.{length}
use lib.Seq.{sets}
use Rattle.std.proofs.Common.{Ok, Err}
use Rattle.refusal.specs.declared.Refusal.{Refusal}
use Rattle.grammar.specs.declared.Cursor.{Cursor}
use Rattle.grammar.specs.Outcome.{got, refused, pure, ◌>>=◌}
use Rattle.grammar.specs.Combinators.{Text}
use Rattle.tables.specs.Table.{rows}
use Rattle.tables.proofs.Listing.{Listing, listing_none, listing-more, listing-refused, listing-left, listing-done, Stored, stored-none, stored_more}
use Rattle.format.specs.Artifact.{Constant, behind}
use Rattle.format.specs.File.{constant}
use Rattle.format.specs.Rows.{constant_rows}
use Rattle.constants.specs.Parts.{Item, item_key, item, item_behind, item_rows, items}
use Rattle.constants.specs.Kept.{Kept}
use Rattle.constants.proofs.Keeping.{kept-got, kept-refused, Out, kept_out, kept-no, Answer}
use Rattle.constants.proofs.Ends.{item-end}
use Rattle.constants.proofs.Stored.{KeptConstant}

foldl-more : {X : Type 0} (next : ℕ → X → ℕ) (from : ℕ) (done : List X) (x : X) → foldl next from (done ++ (x ∷ [])) ≡ next (foldl next from done) x
foldl-more next from [] x = refl
foldl-more next from (y ∷ done) x = foldl-more next (next from y) done x

-- n items are wanted behind `from` places; k are read and stored
pub record Going (places levels : ℕ) (keyed : Bool) (s : List ℕ) (c : Cursor) (n from : ℕ) (entry t : List ℕ) (now : Cursor) (k used : ℕ) : Type 0 where
  pub done : List (Item levels)
  pub listing : Listing (item_behind levels) (item places levels keyed) s c n from done now (n - k) used
  pub stored : Stored (item_rows levels) entry (from * 8) done t (used * 8)
  pub counts : used ≡ foldl (item_behind levels) from done
  pub same : length t ≡ length entry

pub going-none : (places levels : ℕ) (keyed : Bool) (s : List ℕ) (c : Cursor) (n from : ℕ) (entry : List ℕ) →
    Going places levels keyed s c n from entry entry c 0 from
going-none places levels keyed s c n from entry =
    record { done = []; listing = listing-left (listing_none _ _ s c n from) (omega arith); stored = stored-none (item_rows levels) entry (from * 8); counts = refl; same = refl }

-- the contract of the list
abbrev pub KeptList : ℕ → ℕ → Bool → ℕ → ℕ → List ℕ → Cursor → List ℕ → List ℕ → Answer → Type 0
KeptList places levels keyed n from s c entry exit r =
    Kept (items places levels keyed n from s c) (foldl (item_behind levels) from) (rows (item_rows levels)) (from * 8) entry exit r

module _ {places levels : ℕ} {keyed : Bool} {s : List ℕ} {c : Cursor} {n from : ℕ} {entry t : List ℕ} {now : Cursor} {k used : ℕ}
    (g : Going places levels keyed s c n from entry t now k used) where
  one_left : k < n → Listing (item_behind levels) (item places levels keyed) s c n from g.done now (suc (n - (k + 1))) used
  one_left h = listing-left g.listing (omega arith)

  stop : k < n → {r : Refusal} → item places levels keyed used s now ≡ refused r → (exit : List ℕ) → KeptList places levels keyed n from s c entry exit (Err r)
  unfolding items
  stop h e exit = kept-refused (listing-refused (one_left h) e)

  -- the key was refused
  pub going-no-key : k < n → {r : Refusal} → item_key keyed s now ≡ refused r → (exit : List ℕ) → KeptList places levels keyed n from s c entry exit (Err r)
  unfolding item ◌>>=◌
  going-no-key h e exit = stop h (rw e) exit

  module _ {key : Text} {next : Cursor} (is : item_key keyed s now ≡ got key next) where
    -- the constant behind it was refused
    pub going-refused : k < n → {r : Refusal} {exit : List ℕ} → KeptConstant places levels used s next key.span t exit (Err r) →
        KeptList places levels keyed n from s c entry exit (Err r)
    unfolding item ◌>>=◌
    going-refused h {r} {exit} o = let e = kept-no o in stop h (rw (is, e)) exit

    both : (x : Constant Text levels) (later : Cursor) → constant places levels used s next ≡ got x later → item places levels keyed used s now ≡ got (key, x) later
    unfolding item ◌>>=◌ pure
    both x later e = rw (is, e)

    more : k < n → (exit : List ℕ) (m : ℕ) (later : Cursor) (x : Constant Text levels) → constant places levels used s next ≡ got x later →
        behind Text levels used x ≡ m → exit ≡ sets t (used * 8) (constant_rows levels key.span x) → length exit ≡ length t →
        Going places levels keyed s c n from entry exit later (k + 1) m
    more h exit m later x e ends put kept =
        record {
          done = g.done ++ ((key, x) ∷ []);
          listing = subst (Listing (item_behind levels) (item places levels keyed) s c n from (g.done ++ ((key, x) ∷ [])) later (n - (k + 1))) ends (listing-more (one_left h) (both x later e));
          stored = subst (λ (l : List ℕ). Stored (item_rows levels) entry (from * 8) (g.done ++ ((key, x) ∷ [])) l (m * 8)) (sym put)
              (subst (Stored (item_rows levels) entry (from * 8) (g.done ++ ((key, x) ∷ [])) (sets t (used * 8) (item_rows levels (key, x))))
              (item-end levels used (key, x) ∙ ap (λ (i : ℕ). i * 8) ends) (stored_more g.stored (key, x)));
          counts = sym ends ∙ ap (λ (i : ℕ). behind Text levels i x) g.counts ∙ sym (foldl-more (item_behind levels) from g.done (key, x));
          same = kept ∙ g.same;
        }

    -- both were got
    pub going_more : k < n → {exit : List ℕ} {m : ℕ} {later : Cursor} → KeptConstant places levels used s next key.span t exit (Ok (m, later)) →
        length exit ≡ length t → Going places levels keyed s c n from entry exit later (k + 1) m
    going_more h {exit} {m} {later} o kept = go (kept_out o)
      where
        go : Out (constant places levels used s next) (behind Text levels used) (constant_rows levels key.span) (used * 8) t exit m later →
            Going places levels keyed s c n from entry exit later (k + 1) m
        go v = more h exit m later v.value v.is v.ends v.stored kept

-- none is left
pub going_done : {places levels : ℕ} {keyed : Bool} {s : List ℕ} {c : Cursor} {n from : ℕ} {entry t : List ℕ} {now : Cursor} {k used : ℕ} →
    Going places levels keyed s c n from entry t now k used → n ≤ k → KeptList places levels keyed n from s c entry t (Ok (used, now))
unfolding items
going_done g e = kept-got (listing-done (listing-left g.listing (omega arith))) (sym g.counts) g.stored.is
