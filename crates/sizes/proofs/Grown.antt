-- The loop over constants: the rows before the next one are counted, and what is still to grow comes to what was to grow.
use Prim.Native.Nat.{ℕ, zero, suc, ◌+◌, ◌-◌, ◌≤◌, ◌<◌, min}
use mathlib.Core.Bool.{Bool, false}
use mathlib.Core.Path.{◌≡◌, refl, sym, ◌∙◌, ap}
use mathlib.Core.List.{List, ◌++◌, map}
use native.Mathlib.Omega.{arith}
use lib.ListN.{length, length-append}
use Rattle.grammar.specs.Combinators.{put_all}
use Rattle.grammar.specs.Number.{shortest}
use Rattle.rows.specs.declared.constants.Keyed.{Keyed}
use Rattle.rows.specs.Back.{keyed_of, records_of}
use Rattle.rows.specs.Tree.{items_of, node, grow, over_texts}
use Rattle.written.specs.Put.{put_list, put_constant}
use Rattle.model.specs.Lent.{clip}
use Rattle.emit.specs.Constants.{head_bytes, foot_bytes, keys_of, key_bytes, rows_from, put_item, ItemsStand}
use Rattle.emit.proofs.Listing.{between_more, between-all}
use Rattle.emit.proofs.Nodes.{enough-length, item-bytes, tops-list}
use Rattle.emit.proofs.Growing.{keyed_at, Next, next_of, turn-of}
use Rattle.sizes.specs.Counts.{Counts}
use Rattle.sizes.specs.Items.{CountsItems}
use Rattle.emit.specs.declared.constant.Behind.{Behind}
use Rattle.sizes.proofs.Laws.{counts_same, counts-then}

-- ── the loop ──

pub record Grown (text : List ℕ) (keys : Bool) (levels n : ℕ) (t : List ℕ) (used from at next left place : ℕ) : Type 0 where
  pub stand : ItemsStand levels left t used next
  pub rest : (grow levels left (rows_from t used next)).rest ≡ (grow levels n (rows_from t used from)).rest
  pub near : place ≤ 1048577
  pub going : min (place + length (put_all (put_item text keys levels) (grow levels left (rows_from t used next)).trees)) 1048577
      ≡ min (at + length (put_all (put_item text keys levels) (grow levels n (rows_from t used from)).trees)) 1048577

pub grown-none : {text : List ℕ} {keys : Bool} {levels n : ℕ} {t : List ℕ} {used from at : ℕ} →
    ItemsStand levels n t used from → at ≤ 1048577 → Grown text keys levels n t used from at from n at
grown-none stand near = record { stand = stand; rest = refl; near = near; going = refl }

pub grown-done : (levels left : ℕ) {text : List ℕ} {keys : Bool} {n : ℕ} {t : List ℕ} {used from at next place : ℕ} →
    Grown text keys levels n t used from at next left place → left ≤ 0 → CountsItems text keys levels n t used from at (record { place = place; next = next })
grown-done zero zero g h = record { few = g.stand.few; rest = g.rest; counts = record { next = omega (arith, g.near, g.going) } }
grown-done (suc l) zero g h = record { few = g.stand.few; rest = g.rest; counts = record { next = omega (arith, g.near, g.going) } }
grown-done zero (suc k) g h = absurd (omega arith)
grown-done (suc l) (suc k) g h = absurd (omega arith)

-- a constant without items: the row behind it is the next one
none-grow : (levels n : ℕ) {text : List ℕ} {keys : Bool} {t : List ℕ} {used from at place : ℕ} → n ≡ 0 → from ≤ used → place ≤ 1048577 → at ≡ place →
    CountsItems text keys levels n t used from at (record { place = place; next = from })
none-grow zero zero is few near same = record { few = few; rest = refl; counts = record { next = omega arith } }
none-grow (suc l) zero is few near same = record { few = few; rest = refl; counts = record { next = omega arith } }
none-grow zero (suc k) is few near same = absurd (omega arith)
none-grow (suc l) (suc k) is few near same = absurd (omega arith)

-- one constant more, of a row: its key, what it is without its items, and its items
module _ {text : List ℕ} {keys : Bool} {n : ℕ} {t : List ℕ} {used from at next place p q : ℕ} where
  one_more_lem : {l k : ℕ} {inner : Behind} → Grown text keys (suc l) n t used from at next (suc k) place →
      Counts (key_bytes text keys (keyed_at t next).key) place p →
      Counts (head_bytes text (keyed_at t next).constant ++ foot_bytes (keyed_at t next).constant) p q →
      CountsItems text (keys_of (keyed_at t next).constant) l (items_of (keyed_at t next).constant) t used (next + 1) q inner →
      Grown text keys (suc l) n t used from at inner.next k inner.place
  one_more_lem {l} {k} {inner} g before own items =
      let one : Next l k t used next = next_of g.stand in
      let c = (keyed_at t next).constant in
      let grown = grow l (items_of c) (rows_from t used (next + 1)) in
      let under = put_all (put_item text (keys_of c) l) grown.trees in
      let rest = put_all (put_item text keys (suc l)) (grow (suc l) k grown.rest).trees in
      let this = put_item text keys (suc l) ((keyed_at t next).key, node c grown.trees) in
      let long : length this ≡ length (key_bytes text keys (keyed_at t next).key) + (length (head_bytes text c) + (length under + length (foot_bytes c))) =
      sym (ap length (item-bytes text l keys (keyed_at t next).key c grown.trees (enough-length l (items_of c) (rows_from t used (next + 1)) one.items)))
      ∙ (length-append (key_bytes text keys (keyed_at t next).key) _ ∙ ap (λ (z : ℕ). length (key_bytes text keys (keyed_at t next).key) + z)
      (length-append (head_bytes text c) _ ∙ ap (λ (z : ℕ). length (head_bytes text c) + z) (length-append under (foot_bytes c)))) in
      let all : min (place + length (this ++ rest)) 1048577 ≡ min (at + length (put_all (put_item text keys (suc l)) (grow (suc l) n (rows_from t used from)).trees)) 1048577 =
      rw (between_more 8 keyed_of t next used one.few) at g.going in
      let here : min (inner.place + length rest) 1048577 ≡ min (at + length (put_all (put_item text keys (suc l)) (grow (suc l) n (rows_from t used from)).trees)) 1048577 =
      omega (arith, all, length-append this rest, long, before.next, own.next, length-append (head_bytes text c) (foot_bytes c), items.counts.next) in
      record {
        stand = record { inside = g.stand.inside; few = items.few; enough = rw items.rest one.others };
        rest = rw items.rest (rw (between_more 8 keyed_of t next used one.few) at g.rest);
        near = omega (arith, items.counts.next);
        going = rw items.rest here;
      }

  pub grown-more : (levels left : ℕ) (keyed : Keyed) {m : ℕ} {under : Bool} {inner : Behind} → Grown text keys levels n t used from at next left place → 0 < left →
      keyed ≡ keyed_at t next → m ≡ items_of keyed.constant → under ≡ keys_of keyed.constant →
      Counts (key_bytes text keys keyed.key) place p →
      Counts (head_bytes text keyed.constant ++ foot_bytes keyed.constant) p q →
      CountsItems text under (levels - 1) m t used (next + 1) q inner → Grown text keys levels n t used from at inner.next (left - 1) inner.place
  grown-more zero zero keyed g h is counts told before own items = absurd (omega arith)
  grown-more zero (suc k) keyed g h is counts told before own items = absurd g.stand.enough
  grown-more (suc l) zero keyed g h is counts told before own items = absurd (omega arith)
  grown-more (suc l) (suc k) keyed g h is counts told before own items =
      let less : suc l - 1 ≡ l = omega arith in
      let fewer : suc k - 1 ≡ k = omega arith in
      rw fewer (one_more_lem g (rw is at before) (rw is at own) (rw (less, counts, told, is) at items))

  -- of a row without items
  pub grown-leaf : (levels left : ℕ) (keyed : Keyed) {m : ℕ} → Grown text keys levels n t used from at next left place → 0 < left →
      keyed ≡ keyed_at t next → m ≡ items_of keyed.constant → m ≡ 0 → Counts (key_bytes text keys keyed.key) place p →
      Counts (head_bytes text keyed.constant ++ foot_bytes keyed.constant) p q → Grown text keys levels n t used from at (next + 1) (left - 1) q
  grown-leaf levels left keyed {m} g h is counts none before own =
      grown-more levels left keyed g h is counts refl before own
      (none-grow (levels - 1) m none (turn-of levels left g.stand h).items.few (omega (arith, own.next)) refl)

-- the items of the next row stand there, one level deeper
pub grown-items : (levels left : ℕ) (keyed : Keyed) {m : ℕ} {t : List ℕ} {used next : ℕ} → ItemsStand levels left t used next → 0 < left → keyed ≡ keyed_at t next →
    m ≡ items_of keyed.constant → ItemsStand (levels - 1) m t used (next + 1)
grown-items levels left keyed stand h is counts = rw (counts, is) (turn-of levels left stand h).items

-- the top constants behind their count
pub tops-count : (levels tops : ℕ) {text t : List ℕ} {used size at mid : ℕ} {r : Behind} → ItemsStand levels tops t used 0 → size ≡ length (shortest tops) →
    mid ≡ min (at + size) 1048577 → CountsItems text false levels tops t used 0 mid r →
    Counts (put_list (put_constant levels) (map (λ tree. over_texts (clip text) levels tree.1) (grow levels tops (records_of 8 keyed_of used t)).trees)) at r.place
tops-count levels tops {text} {t} {used} {size} {at} {mid} stand long first items =
    let count : Counts (shortest tops) at mid = record { next = rw (← long) first } in
    rw (← between-all 8 keyed_of t used)
    (counts_same (ap length (tops-list text levels tops (grow levels tops (rows_from t used 0)).trees (enough-length levels tops (rows_from t used 0) stand.enough)))
    (counts-then count items.counts))
