-- The constants that grow from sound rows are well-formed, each with its items one level deeper, and take no more places than there are rows.
use Rattle.std.proofs.Common.{if◌then◌else◌}
use Prim.Native.Nat.{ℕ, zero, suc, ◌+◌, ◌^◌, ◌≤◌, ◌<◌}
use mathlib.Core.Bool.{true}
use mathlib.Core.Path.{◌≡◌, refl, sym, ◌∙◌, ap}
use mathlib.Core.List.{List, [], ◌∷◌, ◌++◌, map, foldl}
use native.Mathlib.Nat.{zero-add, suc-add, add_assoc}
use native.Mathlib.Omega.{arith}
use borrow.Author.Tests.{eqb-true}
use lib.Dec.{eqb}
use lib.ListN.{length}
use Rattle.grammar.specs.declared.Span.{Span}
use Rattle.grammar.specs.Combinators.{Each}
use Rattle.format.specs.Artifact as A
use Rattle.rows.specs.declared.constants.Constant.{Constant}
use Rattle.rows.specs.Back.{word, constant_of, keyed_of}
use Rattle.rows.specs.Tree.{items_of, value, node, Grown, grow, over_texts}
use Rattle.written.specs.WellFormed.{Counted, WellString, WellConstant}
use Rattle.written.proofs.Lists.{length-map, all_same}
use Rattle.model.specs.Lent.{clip}
use Rattle.model.specs.Rules.{tag, owns, skip, entries, keyed, is_text, span_at}
use Rattle.emit.specs.Constants.{keys_of, Enough}
use Rattle.upheld.proofs.Tests.{each_both, each_map}
use Rattle.upheld.proofs.Rows.{clip-string}
use Rattle.upheld.proofs.Heads.{WellHead, Sound}

-- ── the rows behind the next n constants ──

skip-none : (rows : List (List ℕ)) → skip rows 0 ≡ rows
unfolding skip
skip-none [] = refl
skip-none (row ∷ rows) = refl

-- behind n, and behind n more
skip-more : (rows : List (List ℕ)) (k n : ℕ) → skip (skip rows k) n ≡ skip rows (k + n)
unfolding skip
skip-more [] k n = refl
skip-more (row ∷ rows) zero n = rw (zero-add n)
skip-more (row ∷ rows) (suc k) n = skip-more rows (owns row + k) n ∙ rw (suc-add k n, add_assoc (owns row) k n)

skip-one : (row : List ℕ) (rows : List (List ℕ)) (n : ℕ) → skip (row ∷ rows) (suc n) ≡ skip (skip rows (owns row)) n
unfolding skip
skip-one row rows n = sym (skip-more rows (owns row) n)

each-behind : {X : Type 0} (P : X → Type 0) (a b : List X) → Each P (a ++ b) → Each P b
each-behind P [] b h = h
each-behind P (x ∷ a) b h = each-behind P a b h.1

each-front : {X : Type 0} (P : X → Type 0) (a b : List X) → Each P (a ++ b) → Each P a
each-front P [] b h = tt
each-front P (x ∷ a) b h = (h.0, each-front P a b h.1)

each-skip : (P : List ℕ → Type 0) (rows : List (List ℕ)) (n : ℕ) → Each P rows → Each P (skip rows n)
unfolding skip
each-skip P [] n h = tt
each-skip P (row ∷ rows) zero h = h
each-skip P (row ∷ rows) (suc n) h = each-skip P rows (owns row + n) h.1

module _ (P : List ℕ → Type 0) where
  keys-behind : (row : List ℕ) (rows : List (List ℕ)) → Each P (keyed (row ∷ rows)) → Each P (keyed rows)
  unfolding keyed
  keys-behind row rows h = each-behind P (if eqb (tag row) 0x08 then entries (word row 5) rows else []) (keyed rows) h

  -- the keys of a map's entries are used
  keys-own : (row : List ℕ) (rows : List (List ℕ)) → eqb (tag row) 0x08 ≡ true → Each P (keyed (row ∷ rows)) → Each P (entries (owns row) rows)
  unfolding keyed
  keys-own row rows e h =
      let is : word row 0 ≡ 0x08 = eqb-true _ _ e in
      let all : owns row ≡ word row 5 = rw is in
      rw all (rw e at (each-front P (if eqb (tag row) 0x08 then entries (word row 5) rows else []) (keyed rows) h))

  keys-skip : (rows : List (List ℕ)) (n : ℕ) → Each P (keyed rows) → Each P (keyed (skip rows n))
  unfolding skip
  keys-skip [] n h = h
  keys-skip (row ∷ rows) zero h = h
  keys-skip (row ∷ rows) (suc n) h = keys-skip rows (owns row + n) (keys-behind row rows h)

-- ── one constant over its items ──

module _ (text : List ℕ) (levels : ℕ) where
  abbrev pub Tree : Type 0
  Tree = Span × A.Constant Span levels

  abbrev pub clipped : Tree → A.Constant (List ℕ) levels
  clipped tree = over_texts (clip text) levels tree.1

  abbrev WellTree : Tree → Type 0
  WellTree tree = WellConstant levels (clipped tree)

  abbrev WellKey : Tree → Type 0
  WellKey tree = WellString (clip text tree.0)

  abbrev behind_tree : ℕ → Tree → ℕ
  behind_tree used tree = A.behind (List ℕ) levels used (clipped tree)

  -- the items without their keys
  abbrev items : List Tree → List (A.Constant (List ℕ) levels)
  items trees = map (over_texts (clip text) levels) (map value trees)

  items-well : (trees : List Tree) → length trees < 2 ^ 64 → Each WellTree trees → Counted (items trees) × Each (WellConstant levels) (items trees)
  items-well trees few each = (
    rw (length-map (over_texts (clip text) levels) (map value trees), length-map value trees) few,
    each_map _ (WellConstant levels) (over_texts (clip text) levels) (λ c h. h) (map value trees)
        (each_map WellTree (λ c. WellConstant levels (over_texts (clip text) levels c)) value (λ tree h. h) trees each),
  )

  items-behind : (trees : List Tree) (used : ℕ) → foldl (A.behind (List ℕ) levels) used (items trees) ≡ foldl behind_tree used trees
  items-behind trees used =
      let next : ℕ → A.Constant Span levels → ℕ = λ used c. A.behind (List ℕ) levels used (over_texts (clip text) levels c) in
      sym (all_same value behind_tree next (λ used tree. refl) trees used
      ∙ all_same (over_texts (clip text) levels) next (A.behind (List ℕ) levels) (λ used c. refl) (map value trees) used)

  -- a map's entries
  abbrev Entry : Type 0
  Entry = List ℕ × A.Constant (List ℕ) levels

  abbrev entry : Tree → Entry
  entry tree = (clip text tree.0, clipped tree)

  abbrev WellEntry : Entry → Type 0
  WellEntry e = WellString e.0 × WellConstant levels e.1

  entries-well : (trees : List Tree) → length trees < 2 ^ 64 → Each WellTree trees → Each WellKey trees → Counted (map entry trees) × Each WellEntry (map entry trees)
  entries-well trees few each keys = (
    rw (length-map entry trees) few,
    each_map (λ tree. WellKey tree × WellTree tree) WellEntry entry (λ tree h. h) trees (each_both WellKey WellTree trees keys each),
  )

  node-well : (c : Constant) (trees : List Tree) → WellHead text c → length trees < 2 ^ 64 → Each WellTree trees → (keys_of c ≡ true → Each WellKey trees) →
      WellConstant (suc levels) (over_texts (clip text) (suc levels) (node c trees))
  node-well Constant.Unit trees head few each keys = tt
  node-well (Constant.Boolean b) trees head few each keys = tt
  node-well (Constant.Int n) trees head few each keys = head
  node-well (Constant.Float bits) trees head few each keys = head
  node-well (Constant.Char code) trees head few each keys = head
  node-well (Constant.Str t) trees head few each keys = head
  node-well (Constant.Array n) trees head few each keys = items-well trees few each
  node-well (Constant.Map n) trees head few each keys = entries-well trees few each (keys refl)
  node-well (Constant.Blob t) trees head few each keys = head
  node-well (Constant.Range from to) trees head few each keys = head
  node-well (Constant.RangeInclusive from to) trees head few each keys = head
  node-well (Constant.Pointer name n k) trees head few each keys = (head.0, (items-well trees few each, head.1))

  -- a constant without items
  alone : (trees : List Tree) (used : ℕ) → length trees ≡ 0 → used + 1 ≡ foldl behind_tree (used + 1) trees
  alone [] used h = refl
  alone (tree ∷ trees) used h = absurd (omega arith)

  node-behind : (c : Constant) (trees : List Tree) (used : ℕ) → length trees ≡ items_of c →
      A.behind (List ℕ) (suc levels) used (over_texts (clip text) (suc levels) (node c trees)) ≡ foldl behind_tree (used + 1) trees
  node-behind Constant.Unit trees used h = alone trees used h
  node-behind (Constant.Boolean b) trees used h = alone trees used h
  node-behind (Constant.Int n) trees used h = alone trees used h
  node-behind (Constant.Float bits) trees used h = alone trees used h
  node-behind (Constant.Char code) trees used h = alone trees used h
  node-behind (Constant.Str t) trees used h = alone trees used h
  node-behind (Constant.Array n) trees used h = items-behind trees (used + 1)
  node-behind (Constant.Map n) trees used h = sym (all_same entry behind_tree (λ used e. A.behind (List ℕ) levels used e.1) (λ used tree. refl) trees (used + 1))
  node-behind (Constant.Blob t) trees used h = alone trees used h
  node-behind (Constant.Range from to) trees used h = alone trees used h
  node-behind (Constant.RangeInclusive from to) trees used h = alone trees used h
  node-behind (Constant.Pointer name n k) trees used h = items-behind trees (used + 1)

-- ── n constants ──

-- the key in a row is UTF-8
abbrev pub Key : List ℕ → List ℕ → Type 0
Key text row = is_text text (span_at 6 row) ≡ true

-- what grew from n constants' rows
record Grew (text : List ℕ) (levels n : ℕ) (rows : List (List ℕ)) (g : Grown levels) : Type 0 where
  rest : g.rest ≡ map keyed_of (skip rows n)
  count : length g.trees ≡ n
  few : n + length (skip rows n) ≤ length rows
  each : Each (WellTree text levels) g.trees
  keys : Each (Key text) (entries n rows) → Each (WellKey text levels) g.trees
  places : (used : ℕ) → foldl (behind_tree text levels) used g.trees + length (skip rows n) ≡ used + length rows

grew_none : (text : List ℕ) (levels : ℕ) (rows : List (List ℕ)) → Grew text levels 0 rows (record { trees = []; rest = map keyed_of rows })
grew_none text levels rows =
    let same : skip rows 0 ≡ rows = skip-none rows in
    record { rest = rw same; count = refl; few = rw same (omega arith); each = tt; keys = λ _. tt; places = λ used. rw same }

module _ (text : List ℕ) (few_bytes : length text < 2 ^ 64) {levels n k : ℕ} (row : List ℕ) (rows : List (List ℕ)) where
  -- one, its items, and the others
  grew-one : {items : Grown levels} {others : Grown (suc levels)} (sound : Sound text row) → k ≡ items_of (constant_of row) → length rows < 2 ^ 64 →
      Each (Key text) (keyed (row ∷ rows)) → Grew text levels k rows items → Grew text (suc levels) n (skip rows k) others →
      Grew text (suc levels) (suc n) (row ∷ rows) (record { trees = ((keyed_of row).key, node (constant_of row) items.trees) ∷ others.trees; rest = others.rest })
  unfolding entries
  grew-one {items} {others} sound is few_rows keys first second =
      let all : k ≡ items_of sound.constant = is ∙ ap items_of sound.is in
      let own : owns row ≡ k = sound.owned ∙ sym all in
      let behind : skip (row ∷ rows) (suc n) ≡ skip (skip rows k) n = skip-one row rows n ∙ rw own in
      let constant : constant_of row ≡ sound.constant = sound.is in
      let counted : length items.trees ≡ items_of sound.constant = first.count ∙ all in
      let tree : Tree text (suc levels) = ((keyed_of row).key, node (constant_of row) items.trees) in
      let used : (used : ℕ) → behind_tree text (suc levels) used tree ≡ foldl (behind_tree text levels) (used + 1) items.trees =
      λ used. rw constant (node-behind text levels sound.constant items.trees used counted) in
      record {
        rest = rw behind second.rest;
        count = ap suc second.count;
        few = rw behind (omega (arith, first.few, second.few));
        each = (
          rw constant (node-well text levels sound.constant items.trees sound.head (omega (arith, first.few, first.count)) first.each
              (λ has. first.keys (rw own at (keys-own (Key text) row rows (sound.keys ∙ has) keys)))),
          second.each,
        );
        keys = λ used. (clip-string text (keyed_of row).key few_bytes used.0, second.keys (rw own at used.1));
        places = λ at. rw (behind, used at) (omega (arith, first.places (at + 1), second.places (foldl (behind_tree text levels) (at + 1) items.trees)));
      }

-- all of them, in a table that has the places
pub record Tops (levels places tops : ℕ) (cs : List (A.Constant (List ℕ) levels)) : Type 0 where
  pub count : length cs ≡ tops
  pub few : tops < 2 ^ 64
  pub room : foldl (A.behind (List ℕ) levels) 0 cs ≤ places
  pub each : Each (WellConstant levels) cs

module _ (text : List ℕ) (few_bytes : length text < 2 ^ 64) where
  grew : (levels n : ℕ) (rows : List (List ℕ)) → Enough levels n (map keyed_of rows) → Each (Sound text) rows → Each (Key text) (keyed rows) → length rows < 2 ^ 64 →
      Grew text levels n rows (grow levels n (map keyed_of rows))
  grew zero zero rows enough sound keys few = grew_none text zero rows
  grew zero (suc n) rows enough sound keys few = absurd enough
  grew (suc levels) zero rows enough sound keys few = grew_none text (suc levels) rows
  grew (suc levels) (suc n) [] enough sound keys few = absurd enough
  grew (suc levels) (suc n) (row ∷ rows) enough sound keys few =
      let k = items_of (constant_of row) in
      let first = grew levels k rows enough.0 sound.1 (keys-behind (Key text) row rows keys) (omega arith) in
      let second = grew (suc levels) n (skip rows k) (rw first.rest at enough.1) (each-skip (Sound text) rows k sound.1)
      (keys-skip (Key text) rows k (keys-behind (Key text) row rows keys)) (omega (arith, first.few)) in
      rw first.rest (grew-one text few_bytes row rows sound.0 refl (omega arith) keys first second)

  -- the top constants, of any levels
  pub tops-well : (levels places tops : ℕ) (rows : List (List ℕ)) → Enough levels tops (map keyed_of rows) → Each (Sound text) rows → Each (Key text) (keyed rows) →
      length rows < 2 ^ 64 → length rows ≤ places → Tops levels places tops (map (clipped text levels) (grow levels tops (map keyed_of rows)).trees)
  tops-well levels places tops rows enough sound keys few room =
      let g = grew levels tops rows enough sound keys few in
      let trees = (grow levels tops (map keyed_of rows)).trees in
      record {
        count = length-map (clipped text levels) trees ∙ g.count;
        few = omega (arith, g.few);
        room = rw (← all_same (clipped text levels) (behind_tree text levels) (A.behind (List ℕ) levels) (λ used tree. refl) trees 0) (omega (arith, g.places 0));
        each = each_map (WellTree text levels) (WellConstant levels) (clipped text levels) (λ tree h. h) trees g.each;
      }
