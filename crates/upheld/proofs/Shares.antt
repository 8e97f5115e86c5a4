-- Records that own shares of an items' table: each says how many its items are, and together they own all that is used.
use Prim.Native.Nat.{ℕ, suc, ◌+◌, ◌^◌, ◌≤◌, ◌<◌}
use mathlib.Core.Path.{◌≡◌, refl, sym, ◌∙◌, ap}
use mathlib.Core.List.{List, [], ◌∷◌, map, foldl}
use native.Mathlib.Omega.{arith}
use lib.ListN.{length, take, drop, length-drop}
use lib.Seq.{length-take-le}
use Rattle.grammar.specs.Combinators.{Each}
use Rattle.tables.specs.Table.{count_items}
use Rattle.format.specs.declared.records.Switch.{Switch}
use Rattle.format.specs.declared.records.Case.{Case}
use Rattle.format.specs.declared.records.Range.{Range}
use Rattle.format.specs.Artifact as A
use Rattle.rows.specs.Back.{word, cut, switch_of, case_of, range_of}
use Rattle.rows.specs.Fits.{FitsSwitch, FitsRange}
use Rattle.written.specs.WellFormed.{WellItems, WellWith, WellCase, WellSwitch, WellSwitches}
use Rattle.written.proofs.Lists.{length-map}
use Rattle.model.specs.Rules.{total}
use Rattle.model.specs.Tables.{shared, shared_cases}
use Rattle.upheld.proofs.Tests.{each_map, each_take, each-drop}
use Rattle.upheld.proofs.Rows.{length_cut, Held}

-- the first n items are there, and those that are owned behind them
record Share {Y : Type 0} (items : List Y) (n rest : ℕ) : Type 0 where
  own : n ≤ length items
  says : n ≡ length (take n items)
  behind : rest ≤ length (drop n items)
  fewer : length (drop n items) ≤ length items

share : {Y : Type 0} (items : List Y) (n rest : ℕ) → n + rest ≤ length items → Share items n rest
share items n rest h =
    let own : n ≤ length items = omega arith in
    record { own = own; says = sym (length-take-le n items own); behind = simp length-drop (omega arith); fewer = simp length-drop (omega arith) }

-- ── one share each ──

module _ {X Y : Type 0} (Whole : X → Type 0) (Item : Y → Type 0) (i : ℕ) (of : List ℕ → X) (count : X → ℕ)
    (counts : (row : List ℕ) → count (of row) ≡ word row i) where
  length-shared : (xs : List X) (items : List Y) → length (shared count xs items) ≡ length xs
  length-shared [] items = refl
  length-shared (x ∷ xs) items = ap suc (length-shared xs (drop (count x) items))

  owned : (row : List ℕ) (rows : List (List ℕ)) (items : List Y) → total i (row ∷ rows) ≤ length items → count (of row) + total i rows ≤ length items
  unfolding total
  owned row rows items h = rw (counts row) h

  each_shared : (rows : List (List ℕ)) (items : List Y) → Each (λ row. Whole (of row)) rows → Each Item items →
      total i rows ≤ length items → length items < 2 ^ 64 →
      Each (WellItems Whole count Item) (shared count (map of rows) items)
  each_shared [] items ok each h few = tt
  each_shared (row ∷ rows) items ok each h few =
      let own = share items (count (of row)) (total i rows) (owned row rows items h) in (
        record {
          fits = record { whole = ok.0; items = each_take Item (count (of row)) items each };
          says = own.says;
          counted = omega arith;
        },
        each_shared rows (drop (count (of row)) items) ok.1 (each-drop Item (count (of row)) items each) own.behind (omega arith),
      )

  all-shared : (rows : List (List ℕ)) (items : List Y) (used : ℕ) → total i rows ≤ length items →
      foldl count_items used (shared count (map of rows) items) ≡ used + total i rows
  unfolding total
  all-shared [] items used h = omega arith
  all-shared (row ∷ rows) items used h =
      let own = share items (count (of row)) (total i rows) (owned row rows items h) in
      all-shared rows (drop (count (of row)) items) (used + length (take (count (of row)) items)) own.behind ∙ omega (arith, counts row)

  -- the shares of a table use the items' table exactly
  pub with-shares : (w iw : ℕ) (item_of : List ℕ → Y) (t items : List ℕ) {used item_used places item_places : ℕ} → Held used places → Held item_used item_places →
      total i (cut w used t) ≡ item_used → Each (λ row. Whole (of row)) (cut w used t) → Each (λ row. Item (item_of row)) (cut iw item_used items) →
      WellWith places item_places (WellItems Whole count Item) (shared count (map of (cut w used t)) (map item_of (cut iw item_used items)))
  with-shares w iw item_of t items {used} {item_used} rows item_rows exact ok each =
      let ys = map item_of (cut iw item_used items) in
      let all : length ys ≡ item_used = length-map item_of (cut iw item_used items) ∙ length_cut iw item_used items in
      let there : total i (cut w used t) ≤ length ys = omega arith in
      let size : length (shared count (map of (cut w used t)) ys) ≡ used =
      length-shared (map of (cut w used t)) ys ∙ (length-map of (cut w used t) ∙ length_cut w used t) in
      record {
        list = record {
          counted = rw size rows.few;
          room = rw size rows.room;
          each = each_shared (cut w used t) ys ok (each_map _ Item item_of (λ row h. h) (cut iw item_used items) each) there (omega arith);
        };
        item_room = omega (arith, all-shared (cut w used t) ys 0 there);
      }

-- ── switches: a share of the cases and one of the ranges ──

length-cased : (ws : List Switch) (cases : List Case) (ranges : List Range) → length (shared_cases ws cases ranges) ≡ length ws
length-cased [] cases ranges = refl
length-cased (w ∷ ws) cases ranges = ap suc (length-cased ws (drop w.cases cases) (drop w.ranges ranges))

module _ (tops : ℕ) where
  each-cased : (rows : List (List ℕ)) (cases : List Case) (ranges : List Range) → Each (λ row. FitsSwitch (switch_of row)) rows →
      Each (WellCase tops) cases → Each FitsRange ranges → total 0 rows ≤ length cases → total 1 rows ≤ length ranges →
      length cases < 2 ^ 64 → length ranges < 2 ^ 64 → Each (WellSwitch tops) (shared_cases (map switch_of rows) cases ranges)
  unfolding total
  each-cased [] cases ranges ok each_case each_range h k few less = tt
  each-cased (row ∷ rows) cases ranges ok each_case each_range h k few less =
      let own = share cases (word row 0) (total 0 rows) h in
      let own_ranges = share ranges (word row 1) (total 1 rows) k in (
        record {
          fits = record {
            whole = ok.0;
            cases = each_take (WellCase tops) (word row 0) cases each_case;
            ranges = each_take FitsRange (word row 1) ranges each_range;
          };
          says_cases = own.says;
          says_ranges = own_ranges.says;
          counted_cases = omega arith;
          counted_ranges = omega arith;
        },
        each-cased rows (drop (word row 0) cases) (drop (word row 1) ranges) ok.1 (each-drop (WellCase tops) (word row 0) cases each_case)
            (each-drop FitsRange (word row 1) ranges each_range) own.behind own_ranges.behind (omega arith) (omega arith),
      )

all-cased : (rows : List (List ℕ)) (cases : List Case) (ranges : List Range) (used : A.UsedCases) →
    total 0 rows ≤ length cases → total 1 rows ≤ length ranges →
    foldl A.count_cases used (shared_cases (map switch_of rows) cases ranges) ≡ record { cases = used.cases + total 0 rows; ranges = used.ranges + total 1 rows }
unfolding total
all-cased [] cases ranges used h k =
    let a : used.cases + 0 ≡ used.cases = omega arith in
    let b : used.ranges + 0 ≡ used.ranges = omega arith in
    rw (a, b)
all-cased (row ∷ rows) cases ranges used h k =
    let own = share cases (word row 0) (total 0 rows) h in
    let own_ranges = share ranges (word row 1) (total 1 rows) k in
    let a : used.cases + length (take (word row 0) cases) + total 0 rows ≡ used.cases + (word row 0 + total 0 rows) = omega arith in
    let b : used.ranges + length (take (word row 1) ranges) + total 1 rows ≡ used.ranges + (word row 1 + total 1 rows) = omega arith in
    all-cased rows (drop (word row 0) cases) (drop (word row 1) ranges) _ own.behind own_ranges.behind ∙ rw (a, b)

-- the shares of the switches use both tables exactly
pub with_cases : (t cases ranges : List ℕ) {used used_cases used_ranges places case_places range_places tops : ℕ} →
    Held used places → Held used_cases case_places → Held used_ranges range_places →
    total 0 (cut 3 used t) ≡ used_cases → total 1 (cut 3 used t) ≡ used_ranges → Each (λ row. FitsSwitch (switch_of row)) (cut 3 used t) →
    Each (λ row. WellCase tops (case_of row)) (cut 2 used_cases cases) → Each (λ row. FitsRange (range_of row)) (cut 4 used_ranges ranges) →
    WellSwitches places case_places range_places tops
    (shared_cases (map switch_of (cut 3 used t)) (map case_of (cut 2 used_cases cases)) (map range_of (cut 4 used_ranges ranges)))
with_cases t cases ranges {used} {used_cases} {used_ranges} {tops = tops} rows case_rows range_rows exact exact_ranges ok each_case each_range =
    let cs = map case_of (cut 2 used_cases cases) in
    let rs = map range_of (cut 4 used_ranges ranges) in
    let all : length cs ≡ used_cases = length-map case_of (cut 2 used_cases cases) ∙ length_cut 2 used_cases cases in
    let all_ranges : length rs ≡ used_ranges = length-map range_of (cut 4 used_ranges ranges) ∙ length_cut 4 used_ranges ranges in
    let size : length (shared_cases (map switch_of (cut 3 used t)) cs rs) ≡ used =
    length-cased (map switch_of (cut 3 used t)) cs rs ∙ (length-map switch_of (cut 3 used t) ∙ length_cut 3 used t) in
    record {
      list = record {
        counted = rw size rows.few;
        room = rw size rows.room;
        each = each-cased tops (cut 3 used t) cs rs ok (each_map _ (WellCase tops) case_of (λ row h. h) (cut 2 used_cases cases) each_case)
            (each_map _ FitsRange range_of (λ row h. h) (cut 4 used_ranges ranges) each_range) (omega arith) (omega arith) (omega arith) (omega arith);
      };
      item_room = rw (all-cased (cut 3 used t) cs rs (record { cases = 0; ranges = 0 }) (omega arith) (omega arith))
          (record { cases = omega arith; ranges = omega arith });
    }
