-- Records and the items that they own: where the shares use the items exactly, all is as long as the records without their items and the
-- items by themselves.
use Prim.Native.Nat.{ℕ, zero, suc, ◌+◌, min}
use mathlib.Core.Path.{◌≡◌, refl, sym, ◌∙◌}
use mathlib.Core.List.{List, [], ◌∷◌, ◌++◌, map}
use native.Mathlib.Omega.{arith}
use lib.ListN.{length, take, drop, length-append, length-take, length-drop}
use Rattle.grammar.specs.Combinators.{put_all}
use Rattle.grammar.specs.Number.{shortest}
use Rattle.tables.specs.Table.{With}
use Rattle.rows.specs.Back.{word, cut, records_of}
use Rattle.written.specs.Put.{put_list}
use Rattle.model.specs.Rules.{total}
use Rattle.model.specs.Tables.{shared}
use Rattle.emit.specs.Shares.{owned, shares_of}
use Rattle.emit.proofs.Listing.{length-records}
use Rattle.emit.proofs.Sharing.{length-shared}
use Rattle.sizes.specs.Counts.{Counts}
use Rattle.sizes.proofs.Laws.{counts_same, counts-then}
use Rattle.sizes.proofs.Flat.{listed, rows-counted}

-- ── lists in parts ──

pub parted : {X : Type 0} (put : X → List ℕ) (n : ℕ) (xs : List X) → length (put_all put xs) ≡ length (put_all put (take n xs)) + length (put_all put (drop n xs))
parted put zero xs = omega arith
parted put (suc n) [] = refl
parted put (suc n) (x ∷ xs) =
    omega (arith, parted put n xs, length-append (put x) (put_all put xs), length-append (put x) (put_all put (take n xs)))

-- what records count, in all
unfoldable pub counts : {X : Type 0} → (X → ℕ) → List X → ℕ
counts count [] = 0
counts count (x ∷ xs) = count x + counts count xs

pub counts-total : {X : Type 0} (count : X → ℕ) (of : List ℕ → X) (i : ℕ) → ((row : List ℕ) → count (of row) ≡ word row i) → (rows : List (List ℕ)) →
    counts count (map of rows) ≡ total i rows
unfolding counts total
counts-total count of i same [] = refl
counts-total count of i same (row ∷ rows) = omega (arith, same row, counts-total count of i same rows)

-- ── records, each with its share ──

module _ {X Y : Type 0} (put : With X Y → List ℕ) (own : X → List ℕ) (item : Y → List ℕ) (count : X → ℕ)
    (each : (x : X) (ys : List Y) → length ys ≡ count x → length (put (record { whole = x; items = ys })) ≡ length (own x) + length (put_all item ys)) where
  pub apart : (xs : List X) (items : List Y) → counts count xs ≡ length items →
      length (put_all put (shared count xs items)) ≡ length (put_all own xs) + length (put_all item items)
  unfolding counts
  apart [] [] h = refl
  apart [] (y ∷ items) h = absurd (omega arith)
  apart (x ∷ xs) items h =
      let here : length (take (count x) items) ≡ count x = simp length-take (omega arith) in
      let rest : counts count xs ≡ length (drop (count x) items) = simp length-drop (omega arith) in
      omega (
        arith,
        each x (take (count x) items) here,
        apart xs (drop (count x) items) rest,
        parted item (count x) items,
        length-append (put (record { whole = x; items = take (count x) items })) (put_all put (shared count xs (drop (count x) items))),
        length-append (own x) (put_all own xs),
      )

  -- of tables
  pub shares-apart : (i w : ℕ) (of : List ℕ → X) (used : ℕ) (t : List ℕ) (iw : ℕ) (item_of : List ℕ → Y) (items : List ℕ) →
      ((row : List ℕ) → count (of row) ≡ word row i) →
      length (put_all put (shares_of i count w of used t iw item_of items))
      ≡ length (put_all own (records_of w of used t)) + length (put_all item (records_of iw item_of (owned i w used t) items))
  shares-apart i w of used t iw item_of items same =
      apart (records_of w of used t) (records_of iw item_of (owned i w used t) items)
      (counts-total count of i same (cut w used t) ∙ sym (length-records iw item_of (owned i w used t) items))

  -- the count, the records without their items, and the items
  pub shares-count : (i w : ℕ) (of : List ℕ → X) (used : ℕ) (t : List ℕ) (iw : ℕ) (item_of : List ℕ → Y) (items : List ℕ) →
      ((row : List ℕ) → count (of row) ≡ word row i) → {size at mid behind n next : ℕ} → size ≡ length (shortest used) → mid ≡ min (at + size) 1048577 →
      Counts (put_all (λ row. own (of row)) (cut w used t)) mid behind → n ≡ owned i w used t →
      Counts (put_all (λ row. item (item_of row)) (cut iw n items)) behind next →
      Counts (put_list put (shares_of i count w of used t iw item_of items)) at next
  shares-count i w of used t iw item_of items same {mid = mid} {behind = behind} {next = next} long first wholes exact rest =
      let all : Counts (put_all own (records_of w of used t) ++ put_all item (records_of iw item_of (owned i w used t) items)) mid next =
      counts-then (rows-counted own of (cut w used t) wholes) (rows-counted item item_of (cut iw (owned i w used t) items) (rw exact at rest)) in
      listed put used (shares_of i count w of used t iw item_of items) (length-shared count (records_of w of used t) _ ∙ length-records w of used t) long first
      (counts_same (length-append (put_all own (records_of w of used t)) _ ∙ sym (shares-apart i w of used t iw item_of items same)) all)
