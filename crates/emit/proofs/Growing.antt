-- The loop over constants: the rows before the next one are put, and what is still to grow comes to what was to grow.
use Prim.Native.Nat.{ℕ, zero, suc, ◌+◌, ◌*◌, ◌-◌, ◌≤◌, ◌<◌}
use mathlib.Core.Bool.{Bool, true, false}
use mathlib.Core.Path.{◌≡◌, refl, sym, ◌∙◌, ap}
use mathlib.Core.List.{List, [], ◌∷◌, map}
use native.Mathlib.Omega.{arith}
use borrow.Author.Tests.{ltb-true, ltb-false}
use lib.Dec.{ltb}
use lib.ListN.{length, take, drop}
use Rattle.grammar.specs.Combinators.{put_all}
use Rattle.grammar.specs.Number.{shortest}
use Rattle.rows.specs.declared.constants.Keyed.{Keyed}
use Rattle.rows.specs.Back.{keyed_of, records_of}
use Rattle.rows.specs.Tree.{items_of, node, grow, over_texts}
use Rattle.written.specs.Put.{put_list, put_constant}
use Rattle.model.specs.Lent.{clip}
use Rattle.emit.specs.declared.constant.Behind.{Behind}
use Rattle.emit.specs.Puts.{Puts}
use Rattle.emit.specs.Constants.{head_bytes, foot_bytes, keys_of, key_bytes, Enough, rows_from, put_item, ItemsStand, PutsItems}
use Rattle.emit.proofs.Laws.{puts-same, puts_then, Onward, onward-none, onward-more, onward-done}
use Rattle.emit.proofs.Listing.{between_more, between_none, between-all}
use Rattle.emit.proofs.Nodes.{enough-length, item-bytes, tops-list}

-- the constant of a row
abbrev pub keyed_at : List ℕ → ℕ → Keyed
keyed_at t next = keyed_of (take 8 (drop (next * 8) t))

-- where a constant is left, its row is there, and what stands behind the row
pub record Next (under fewer : ℕ) (t : List ℕ) (used next : ℕ) : Type 0 where
  pub few : next < used
  pub items : Enough under (items_of (keyed_at t next).constant) (rows_from t used (next + 1))
  pub others : Enough (suc under) fewer (grow under (items_of (keyed_at t next).constant) (rows_from t used (next + 1))).rest

pub next_of : {under fewer : ℕ} {t : List ℕ} {used next : ℕ} → ItemsStand (suc under) (suc fewer) t used next → Next under fewer t used next
next_of {under = l} {fewer = k} {t = t} {used = used} {next = next} g = go (ltb next used) refl
  where
    go : (b : Bool) → ltb next used ≡ b → Next l k t used next
    go true e =
        let few : next < used = ltb-true _ _ e in
        let both : Enough (suc l) (suc k) (keyed_at t next ∷ rows_from t used (next + 1)) = rw (between_more 8 keyed_of t next used few) at g.enough in
        record { few = few; items = both.0; others = both.1 }
    go false e =
        let past : used ≤ next = ltb-false _ _ e in
        let none : Enough (suc l) (suc k) [] = rw (between_none 8 keyed_of t next used past) at g.enough in
        absurd none

-- what a turn asks: a level more, the row, and the items of its constant one level deeper
pub record Turn (levels : ℕ) (t : List ℕ) (used next : ℕ) : Type 0 where
  pub deep : 0 < levels
  pub row : (next + 1) * 8 ≤ length t
  pub items : ItemsStand (levels - 1) (items_of (keyed_at t next).constant) t used (next + 1)

pub turn-of : (levels left : ℕ) {t : List ℕ} {used next : ℕ} → ItemsStand levels left t used next → 0 < left → Turn levels t used next
turn-of zero zero g h = absurd (omega arith)
turn-of zero (suc k) g h = absurd g.enough
turn-of (suc l) zero g h = absurd (omega arith)
turn-of (suc l) (suc k) {t} {used} {next} g h =
    let one : Next l k t used next = next_of g in
    let under : suc l - 1 ≡ l = omega arith in
    record {
      deep = omega arith;
      row = omega (arith, one.few, g.inside);
      items = rw under (record { inside = g.inside; few = omega (arith, one.few); enough = one.items });
    }

-- ── the loop ──

pub record Growing (text : List ℕ) (keys : Bool) (levels n : ℕ) (t : List ℕ) (used from : ℕ) (e : List ℕ) (at : ℕ) (next left : ℕ) (out : List ℕ) (place : ℕ) : Type 0 where
  pub stand : ItemsStand levels left t used next
  pub rest : (grow levels left (rows_from t used next)).rest ≡ (grow levels n (rows_from t used from)).rest
  pub going : Onward (put_all (put_item text keys levels) (grow levels n (rows_from t used from)).trees) e at
      (put_all (put_item text keys levels) (grow levels left (rows_from t used next)).trees) out place

pub growing-none : {text : List ℕ} {keys : Bool} {levels n : ℕ} {t : List ℕ} {used from : ℕ} {e : List ℕ} {at : ℕ} →
    ItemsStand levels n t used from → Growing text keys levels n t used from e at from n e at
growing-none stand = record { stand = stand; rest = refl; going = onward-none }

pub growing-done : (levels left : ℕ) {text : List ℕ} {keys : Bool} {n : ℕ} {t : List ℕ} {used from : ℕ} {e : List ℕ} {at next : ℕ} {out : List ℕ} {place : ℕ} →
    Growing text keys levels n t used from e at next left out place → left ≤ 0 →
    PutsItems text keys levels n t used from e at out (record { place = place; next = next })
growing-done zero zero g h = record { few = g.stand.few; rest = g.rest; puts = onward-done g.going }
growing-done (suc l) zero g h = record { few = g.stand.few; rest = g.rest; puts = onward-done g.going }
growing-done zero (suc k) g h = absurd (omega arith)
growing-done (suc l) (suc k) g h = absurd (omega arith)

-- no constant at all
pub growing-nothing : (levels : ℕ) {text : List ℕ} {keys : Bool} {t : List ℕ} {used from : ℕ} {e : List ℕ} {at : ℕ} → ItemsStand levels 0 t used from →
    PutsItems text keys levels 0 t used from e at e (record { place = at; next = from })
growing-nothing levels stand = growing-done levels 0 (growing-none stand) (omega arith)

-- one constant more, of a row: its key, its head, its items, and what stands behind them
module _ {text : List ℕ} {keys : Bool} {n : ℕ} {t : List ℕ} {used from : ℕ} {e : List ℕ} {at next : ℕ} {out : List ℕ} {place : ℕ}
    {a b x y : List ℕ} {p q last : ℕ} {inner : Behind} where
  one_more_lem : {l k : ℕ} → Growing text keys (suc l) n t used from e at next (suc k) out place →
      Puts (key_bytes text keys (keyed_at t next).key) out place a p → Puts (head_bytes text (keyed_at t next).constant) a p b q →
      PutsItems text (keys_of (keyed_at t next).constant) l (items_of (keyed_at t next).constant) t used (next + 1) b q x inner →
      Puts (foot_bytes (keyed_at t next).constant) x inner.place y last →
      Growing text keys (suc l) n t used from e at inner.next k y last
  one_more_lem {l} {k} g before first items behind =
      let one : Next l k t used next = next_of g.stand in
      let c = (keyed_at t next).constant in
      let grown = grow l (items_of c) (rows_from t used (next + 1)) in
      let item : Puts (put_item text keys (suc l) ((keyed_at t next).key, node c grown.trees)) out place y last =
      puts-same (item-bytes text l keys (keyed_at t next).key c grown.trees (enough-length l (items_of c) (rows_from t used (next + 1)) one.items))
      (puts_then before (puts_then first (puts_then items.puts behind))) in
      record {
        stand = record { inside = g.stand.inside; few = items.few; enough = rw items.rest one.others };
        rest = rw items.rest (rw (between_more 8 keyed_of t next used one.few) at g.rest);
        going = rw items.rest (onward-more (rw (between_more 8 keyed_of t next used one.few) at g.going) item);
      }

  pub growing-more : (levels left : ℕ) {keyed : Keyed} {m : ℕ} {under : Bool} → Growing text keys levels n t used from e at next left out place → 0 < left →
      keyed ≡ keyed_at t next → m ≡ items_of keyed.constant → under ≡ keys_of keyed.constant →
      Puts (key_bytes text keys keyed.key) out place a p → Puts (head_bytes text keyed.constant) a p b q →
      PutsItems text under (levels - 1) m t used (next + 1) b q x inner → Puts (foot_bytes keyed.constant) x inner.place y last →
      Growing text keys levels n t used from e at inner.next (left - 1) y last
  growing-more zero zero g h is counts told before first items behind = absurd (omega arith)
  growing-more zero (suc k) g h is counts told before first items behind = absurd g.stand.enough
  growing-more (suc l) zero g h is counts told before first items behind = absurd (omega arith)
  growing-more (suc l) (suc k) g h is counts told before first items behind =
      let less : suc l - 1 ≡ l = omega arith in
      let fewer : suc k - 1 ≡ k = omega arith in
      rw fewer (one_more_lem g (rw is at before) (rw is at first) (rw (less, counts, told, is) at items) (rw is at behind))

-- one constant more that owns none
pub growing-alone : (levels left : ℕ) {text : List ℕ} {keys : Bool} {n : ℕ} {t : List ℕ} {used from : ℕ} {e : List ℕ} {at next : ℕ} {out : List ℕ} {place : ℕ}
    {a b y : List ℕ} {p q last : ℕ} {keyed : Keyed} {m : ℕ} → Growing text keys levels n t used from e at next left out place → 0 < left →
    keyed ≡ keyed_at t next → m ≡ items_of keyed.constant → m ≡ 0 →
    Puts (key_bytes text keys keyed.key) out place a p → Puts (head_bytes text keyed.constant) a p b q → Puts (foot_bytes keyed.constant) b q y last →
    Growing text keys levels n t used from e at (next + 1) (left - 1) y last
growing-alone levels left {t = t} {next = next} g h is counts none before first behind =
    let zero : items_of (keyed_at t next).constant ≡ 0 = ap (λ (k : Keyed). items_of k.constant) (sym is) ∙ sym counts ∙ none in
    growing-more levels left g h is counts refl before first (rw none (growing-nothing (levels - 1) (rw zero at (turn-of levels left g.stand h).items))) behind

-- the top constants behind their count
pub tops-puts : (levels tops : ℕ) {text t : List ℕ} {used : ℕ} {e m x : List ℕ} {at mid : ℕ} {r : Behind} → ItemsStand levels tops t used 0 →
    Puts (shortest tops) e at m mid → PutsItems text false levels tops t used 0 m mid x r →
    Puts (put_list (put_constant levels) (map (λ tree. over_texts (clip text) levels tree.1) (grow levels tops (records_of 8 keyed_of used t)).trees)) e at x r.place
tops-puts levels tops {text} {t} {used} stand p items =
    rw (← between-all 8 keyed_of t used)
    (puts-same (tops-list text levels tops (grow levels tops (rows_from t used 0)).trees (enough-length levels tops (rows_from t used 0) stand.enough))
    (puts_then p items.puts))
