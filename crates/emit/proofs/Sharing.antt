-- The loop over records that own shares of an items' table.
use Prim.Native.Nat.{ℕ, zero, suc, ◌+◌, ◌*◌, ◌-◌, ◌≤◌, ◌<◌}
use mathlib.Core.Path.{◌≡◌, refl, sym, ◌∙◌, ap}
use mathlib.Core.List.{List, [], ◌∷◌, map}
use Rattle.std.proofs.lemmas.List.{map-id, take-map, drop-map}
use native.Mathlib.Nat.{add_comm, add-mul, one-mul, zero-mul, suc-mul, le_trans, mul-le-mul_right}
use native.Mathlib.Omega.{arith}
use lib.ListN.{length, take, drop}
use lib.Seq.{drop-drop}
use Rattle.grammar.specs.Combinators.{put_all}
use Rattle.grammar.specs.Number.{shortest}
use Rattle.tables.specs.Table.{With}
use Rattle.rows.specs.Back.{word, cut, records_of}
use Rattle.written.specs.Put.{put_list}
use Rattle.model.specs.Rules.{total}
use Rattle.model.specs.Tables.{shared}
use Rattle.emit.specs.Puts.{Puts}
use Rattle.emit.specs.Shares.{owned, SharesFit}
use Rattle.emit.proofs.Laws.{Onward, onward-none, onward-more, onward-done}
use Rattle.emit.proofs.Listing.{between, between_more, between_none, rows, rows-all, length-cut, counted, list-map}

-- ── shares of the items ──

module _ {X : Type 0} (w : ℕ) (of : List ℕ → X) where
  take-records : (k n : ℕ) (t : List ℕ) → k ≤ n → take k (records_of w of n t) ≡ records_of w of k t
  take-records zero n t h = refl
  take-records (suc k) zero t h = absurd (omega arith)
  take-records (suc k) (suc n) t h = ap (λ (l : List X). of (take w t) ∷ l) (take-records k n (drop w t) (omega arith))

  drop-records : (k n : ℕ) (t : List ℕ) → k ≤ n → drop k (records_of w of n t) ≡ records_of w of (n - k) (drop (k * w) t)
  drop-records zero n t h = let all : n - 0 ≡ n = omega arith in rw (all, zero-mul w)
  drop-records (suc k) zero t h = absurd (omega arith)
  drop-records (suc k) (suc n) t h =
      let less : suc n - suc k ≡ n - k = omega arith in
      let words : w + k * w ≡ suc k * w = add_comm w (k * w) ∙ sym (suc-mul k w) in
      drop-records k n (drop w t) (omega arith) ∙ rw (drop-drop (k * w) w t, words, less)

  -- the next share, and what is left behind it
  pub share : (t : List ℕ) (from n end : ℕ) → from + n ≤ end → take n (between w of t from end) ≡ records_of w of n (drop (from * w) t)
  share t from n end h = take-records n (end - from) (drop (from * w) t) (omega arith)

  pub others : (t : List ℕ) (from n end : ℕ) → from + n ≤ end → drop n (between w of t from end) ≡ between w of t (from + n) end
  others t from n end h =
      let less : end - from - n ≡ end - (from + n) = omega arith in
      let words : from * w + n * w ≡ (from + n) * w = sym (add-mul from n w) in
      drop-records n (end - from) (drop (from * w) t) (omega arith) ∙ rw (drop-drop (n * w) (from * w) t, words, less)

-- ── what the rows from a place on own ──

abbrev pub owed : ℕ → ℕ → List ℕ → ℕ → ℕ → ℕ
owed i w t j used = total i (cut w (used - j) (drop (j * w) t))

pub owed_all : (i w : ℕ) (t : List ℕ) (used : ℕ) → owed i w t 0 used ≡ owned i w used t
owed_all i w t used = let all : used - 0 ≡ used = omega arith in rw (all, zero-mul w)

pub owed_more : (i w : ℕ) (t : List ℕ) (j used : ℕ) → j < used → owed i w t j used ≡ word (take w (drop (j * w) t)) i + owed i w t (j + 1) used
unfolding total
owed_more i w t j used h =
    let more : used - j ≡ suc (used - (j + 1)) = omega arith in
    let behind : j * w + w ≡ (j + 1) * w = sym (add-mul j 1 w ∙ ap (λ (k : ℕ). j * w + k) (one-mul w)) in
    rw (more, drop-drop w (j * w) t, behind)

-- ── the loop ──

-- the records before j are put, with the items before `from`
pub record Sharing (put : With (List ℕ) (List ℕ) → List ℕ) (i w iw : ℕ) (t : List ℕ) (used : ℕ) (items all e : List ℕ) (at j from : ℕ) (out : List ℕ) (place : ℕ) : Type 0 where
  pub fit : SharesFit i w used t iw items
  pub few : j ≤ used
  pub own : from + owed i w t j used ≡ owned i w used t
  pub going : Onward all e at (put_all put (shared (λ row. word row i) (rows w t j used) (rows iw items from (owned i w used t)))) out place

pub sharing-none : {put : With (List ℕ) (List ℕ) → List ℕ} {i w iw : ℕ} {t : List ℕ} {used : ℕ} {items m : List ℕ} {mid : ℕ} → SharesFit i w used t iw items →
    Sharing put i w iw t used items (put_all put (shared (λ row. word row i) (cut w used t) (cut iw (owned i w used t) items))) m mid 0 0 m mid
sharing-none {i = i} {w = w} {iw = iw} {t = t} {used = used} {items = items} fit =
    record {
      fit = fit;
      few = omega arith;
      own = rw (owed_all i w t used) (omega arith);
      going = rw (rows-all w t used, rows-all iw items (owned i w used t)) onward-none;
    }

module _ {put : With (List ℕ) (List ℕ) → List ℕ} {i w iw : ℕ} {t : List ℕ} {used : ℕ} {items all e : List ℕ} {at j from : ℕ} {out : List ℕ} {place : ℕ}
    (g : Sharing put i w iw t used items all e at j from out place) where
  abbrev row : List ℕ
  row = take w (drop (j * w) t)

  -- the next record is there, and its items
  pub sharing-row : j < used → (j + 1) * w ≤ length t
  sharing-row h = le_trans (mul-le-mul_right w (omega arith)) g.fit.rows

  sharing-owned : j < used → from + word row i ≤ owned i w used t
  sharing-owned h = omega (arith, g.own, owed_more i w t j used h)

  pub sharing-items : j < used → {y : List ℕ} → y ≡ row → (from + word y i) * iw ≤ length items
  sharing-items h is = rw is (le_trans (mul-le-mul_right iw (sharing-owned h)) g.fit.shares)

  pub sharing-more : {y : List ℕ} {n : ℕ} {x : List ℕ} {next : ℕ} → j < used → y ≡ row → n ≡ word y i →
      Puts (put (record { whole = y; items = cut iw (word y i) (drop (from * iw) items) })) out place x next →
      Sharing put i w iw t used items all e at (j + 1) (from + n) x next
  sharing-more h is counts p = rw (counts, is) (go (rw is at p))
    where
      go : {x : List ℕ} {next : ℕ} → Puts (put (record { whole = row; items = cut iw (word row i) (drop (from * iw) items) })) out place x next →
          Sharing put i w iw t used items all e at (j + 1) (from + word row i) x next
      go p =
          let inside : from + word row i ≤ owned i w used t = sharing-owned h in
          let own-items : take (word row i) (rows iw items from (owned i w used t)) ≡ cut iw (word row i) (drop (from * iw) items) =
          share iw (λ row. row) items from (word row i) (owned i w used t) inside ∙ map-id (cut iw (word row i) (drop (from * iw) items)) in
          record {
            fit = g.fit;
            few = omega arith;
            own = omega (arith, g.own, owed_more i w t j used h);
            going = rw (← others iw (λ row. row) items from (word row i) (owned i w used t) inside)
                (onward-more (rw (between_more w (λ row. row) t j used h) at g.going) (rw (← own-items) at p));
          }

  pub sharing-done : used ≤ j → Puts all e at out place
  sharing-done h = onward-done (rw (between_none w (λ row. row) t j used h) at g.going)

pub length-shared : {X Y : Type 0} (count : X → ℕ) (xs : List X) (items : List Y) → length (shared count xs items) ≡ length xs
length-shared count [] items = refl
length-shared count (x ∷ xs) items = ap suc (length-shared count xs (drop (count x) items))

-- a count, and as many records
pub shared-all : {put : With (List ℕ) (List ℕ) → List ℕ} {i w iw : ℕ} {t : List ℕ} {used : ℕ} {items e m x : List ℕ} {at mid j from next : ℕ} →
    Puts (shortest used) e at m mid →
    Sharing put i w iw t used items (put_all put (shared (λ row. word row i) (cut w used t) (cut iw (owned i w used t) items))) m mid j from x next → used ≤ j →
    Puts (put_list put (shared (λ row. word row i) (cut w used t) (cut iw (owned i w used t) items))) e at x next
shared-all {put = put} {i = i} {w = w} {iw = iw} {t = t} {used = used} {items = items} p g h =
    counted put used (shared (λ row. word row i) (cut w used t) (cut iw (owned i w used t) items))
    (length-shared (λ row. word row i) (cut w used t) _ ∙ length-cut w used t) p (sharing-done g h)

-- ── rows as the records that they mean ──

module _ {X Y : Type 0} (put : With X Y → List ℕ) (count : X → ℕ) (of : List ℕ → X) (item_of : List ℕ → Y) where
  abbrev meant : With (List ℕ) (List ℕ) → With X Y
  meant w = record { whole = of w.whole; items = map item_of w.items }

  shared-meant : (rs is : List (List ℕ)) → map meant (shared (λ row. count (of row)) rs is) ≡ shared count (map of rs) (map item_of is)
  shared-meant [] is = refl
  shared-meant (r ∷ rs) is =
      rw (take-map, drop-map, shared-meant rs (drop (count (of r)) is))

  pub owners-meant : (rs is : List (List ℕ)) →
      put_list (λ w. put (meant w)) (shared (λ row. count (of row)) rs is) ≡ put_list put (shared count (map of rs) (map item_of is))
  owners-meant rs is = list-map put meant _ ∙ ap (put_list put) (shared-meant rs is)
