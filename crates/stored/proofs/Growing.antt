-- The rows of constants that fit grow back into the constants, with their texts' places.
use Prim.Native.Nat.{ℕ, zero, suc, ◌+◌}
use mathlib.Core.Path.{◌≡◌, refl, sym, ◌∙◌}
use mathlib.Core.Bool.{true, false}
use mathlib.Core.List.{List, [], ◌∷◌, ◌++◌, map, foldl, append_assoc, append-nil, map-map}
use native.Mathlib.Nat.{zero-add}
use native.Mathlib.Omega.{arith}
use lib.ListN.{length, length-append}
use lib.Seq.{take_at, drop_at}
use mir.Syntax.{w64}
use mir.ValLaws.{to_z-of_z}
use Rattle.grammar.specs.declared.Span.{Span}
use Rattle.grammar.specs.Combinators.{Text, Each}
use Rattle.tables.specs.Table.{rows}
use Rattle.format.specs.Artifact as A
use Rattle.format.specs.Rows as R
use Rattle.rows.specs.declared.constants.Kind.{Kind}
use Rattle.rows.specs.declared.constants.Constant.{Constant}
use Rattle.rows.specs.declared.constants.Keyed.{Keyed}
use Rattle.rows.specs.Back as B
use Rattle.rows.specs.Fits.{FitsConstant}
use Rattle.rows.specs.Given.{TableGrows}
use Rattle.rows.specs.Tree.{Grown, grow, items_of, kind, node, value, over_texts}
use Rattle.rows.proofs.Numbers.{bits_back}

abbrev pub span : Text → Span
span t = t.span

abbrev pub placed : (levels : ℕ) → A.Constant Text levels → A.Constant Span levels
placed levels c = over_texts span levels c

abbrev pub keyed_rows : ℕ → List ℕ → List Keyed
keyed_rows n table = B.records_of 8 B.keyed_of n table

-- one more in front of what grew
abbrev more : (levels : ℕ) → Span → A.Constant Span levels → Grown levels → Grown levels
more levels key c g = record { trees = (key, c) ∷ g.trees; rest = g.rest }

-- one constant has rows; cut apart, they are taken for one constant, and what is behind them is left
record One (levels : ℕ) (key : Span) (c : A.Constant Text levels) : Type 0 where
  keyed : List Keyed
  cut : (n : ℕ) (rest : List ℕ) → keyed_rows (n + length keyed) (R.constant_rows levels key c ++ rest) ≡ keyed ++ keyed_rows n rest
  grown : (n : ℕ) (rest : List Keyed) → grow levels (suc n) (keyed ++ rest) ≡ more levels key (placed levels c) (grow levels n rest)
  behind : (used : ℕ) → A.behind Text levels used c ≡ used + length keyed

-- a list of constants with any keys
module _ {X : Type 0} (levels : ℕ) (key : X → Span) (constant : X → A.Constant Text levels) where
  abbrev pub rows_of : X → List ℕ
  rows_of x = R.constant_rows levels (key x) (constant x)

  abbrev pub tree_of : X → Span × A.Constant Span levels
  tree_of x = (key x, placed levels (constant x))

  abbrev pub next : ℕ → X → ℕ
  next used x = A.behind Text levels used (constant x)

  record Several (xs : List X) : Type 0 where
    keyed : List Keyed
    cut : (n : ℕ) (rest : List ℕ) → keyed_rows (n + length keyed) (rows rows_of xs ++ rest) ≡ keyed ++ keyed_rows n rest
    grown : (rest : List Keyed) → grow levels (length xs) (keyed ++ rest) ≡ record { trees = map tree_of xs; rest = rest }
    behind : (used : ℕ) → foldl next used xs ≡ used + length keyed

grow-none : (levels : ℕ) (rest : List Keyed) → grow levels 0 rest ≡ record { trees = []; rest = rest }
grow-none zero rest = refl
grow-none (suc levels) rest = refl

nothing : {X : Type 0} (levels : ℕ) (key : X → Span) (constant : X → A.Constant Text levels) → Several levels key constant []
nothing levels key constant =
    record { keyed = []; cut = λ n rest. let none : n + 0 ≡ n = omega arith in rw none; grown = grow-none levels; behind = λ used. omega arith }

several : {X : Type 0} (levels : ℕ) → ((own : Span) (c : A.Constant Text levels) → FitsConstant Text levels c → One levels own c) →
    (key : X → Span) (constant : X → A.Constant Text levels) (xs : List X) → Each (λ x. FitsConstant Text levels (constant x)) xs →
    Several levels key constant xs
several levels one key constant [] ok = nothing levels key constant
several levels one key constant (x ∷ xs) ok =
    let o = one (key x) (constant x) ok.0 in
    let r = several levels one key constant xs ok.1 in
    record {
      keyed = o.keyed ++ r.keyed;
      cut = λ n rest.
          let counts : n + length (o.keyed ++ r.keyed) ≡ n + length r.keyed + length o.keyed = omega (arith, length-append o.keyed r.keyed) in
          rw (counts, append_assoc (rows_of levels key constant x) (rows (rows_of levels key constant) xs) rest, o.cut (n + length r.keyed) (rows (rows_of levels key constant) xs ++ rest), r.cut n rest, append_assoc o.keyed r.keyed (keyed_rows n rest));
      grown = λ rest. rw (append_assoc o.keyed r.keyed rest, o.grown (length xs) (r.keyed ++ rest), r.grown rest);
      behind = λ used. r.behind (next levels key constant used x) ∙ omega (arith, o.behind used, length-append o.keyed r.keyed);
    }

-- ── one constant, of its own row and of its items ──

-- what its own row is, in front of the rows of its items
record Headed {X : Type 0} (levels : ℕ) (key : X → Span) (constant : X → A.Constant Text levels) (items : List X) (own : Span) (c : A.Constant Text (suc levels)) : Type 0 where
  head : Constant
  words : List ℕ
  wide : length words ≡ 8
  front : R.constant_rows (suc levels) own c ≡ words ++ rows (rows_of levels key constant) items
  back : B.keyed_of words ≡ record { key = own; constant = head }
  count : items_of head ≡ length items
  tree : node head (map (tree_of levels key constant) items) ≡ placed (suc levels) c
  behind : (used : ℕ) → A.behind Text (suc levels) used c ≡ foldl (next levels key constant) (used + 1) items

one_of : {X : Type 0} {levels : ℕ} {key : X → Span} {constant : X → A.Constant Text levels} {items : List X} {own : Span} {c : A.Constant Text (suc levels)} →
    Headed levels key constant items own c → Several levels key constant items → One (suc levels) own c
one_of {X} {levels} {key} {constant} {items} {own} {c} h s =
    record {
      keyed = k ∷ s.keyed;
      cut = λ n rest.
          let counts : n + suc (length s.keyed) ≡ suc (n + length s.keyed) = omega arith in
          rw (counts, h.front, append_assoc h.words inner rest, take_at h.words (inner ++ rest) 8 h.wide, drop_at h.words (inner ++ rest) 8 h.wide, h.back, s.cut n rest);
      grown = λ n rest. rw (h.count, s.grown rest, h.tree);
      behind = λ used. h.behind used ∙ s.behind (used + 1) ∙ omega arith;
    }
  where
    k : Keyed
    k = record { key = own; constant = h.head }

    inner : List ℕ
    inner = rows (rows_of levels key constant) items

-- a list of constants whose rows have no keys
module _ (levels : ℕ) where
  abbrev unkeyed : A.Constant Text levels → Span
  unkeyed c = R.nowhere

  abbrev itself : A.Constant Text levels → A.Constant Text levels
  itself c = c

  values-back : (cs : List (A.Constant Text levels)) → map value (map (tree_of levels unkeyed itself) cs) ≡ map (placed levels) cs
  values-back cs = map-map value (tree_of levels unkeyed itself) cs

-- a constant without items
leaf : (levels : ℕ) (own : Span) (c : A.Constant Text (suc levels)) (head : Constant) → length (R.constant_rows (suc levels) own c) ≡ 8 →
    B.keyed_of (R.constant_rows (suc levels) own c) ≡ record { key = own; constant = head } → items_of head ≡ 0 →
    node {E = A.Constant Span levels} head [] ≡ placed (suc levels) c → ((used : ℕ) → A.behind Text (suc levels) used c ≡ used + 1) → One (suc levels) own c
leaf levels own c head wide back count tree behind =
    one_of {X = A.Constant Text levels} {key = unkeyed levels} {constant = itself levels} {items = []}
    (record { head = head; words = R.constant_rows (suc levels) own c; wide = wide; front = sym (append-nil _); back = back; count = count; tree = tree; behind = behind })
    (nothing levels (unkeyed levels) (itself levels))

-- a pointer's own row
abbrev pointer_words : Text → ℕ → A.Kind → Span → List ℕ
pointer_words name n k own = R.constant_words 0x0D (R.kind_tag k) (R.kind_count k) name.span.start name.span.size n own.start own.size

-- a constant of one level more, by its tag
module _ (levels : ℕ) (deeper : (own : Span) (c : A.Constant Text levels) → FitsConstant Text levels c → One levels own c) (own : Span) where
  array-one : (items : List (A.Constant Text levels)) → Each (FitsConstant Text levels) items → One (suc levels) own (A.array items)
  array-one items ok =
      one_of
      (record {
        head = Constant.Array (length items);
        words = R.constant_words 0x07 0 0 0 0 (length items) own.start own.size;
        wide = refl;
        front = refl;
        back = refl;
        count = refl;
        tree = rw (values-back levels items);
        behind = λ used. refl;
      })
      (several levels deeper (unkeyed levels) (itself levels) items ok)

  map-one : (entries : List (Text × A.Constant Text levels)) → Each (λ entry. FitsConstant Text levels entry.1) entries → One (suc levels) own (A.map entries)
  map-one entries ok =
      one_of
      (record {
        head = Constant.Map (length entries);
        words = R.constant_words 0x08 0 0 0 0 (length entries) own.start own.size;
        wide = refl;
        front = refl;
        back = refl;
        count = refl;
        tree = refl;
        behind = λ used. refl;
      })
      (several levels deeper (λ entry. entry.0.span) (λ entry. entry.1) entries ok)

  pointer_one : (name : Text) (curried : List (A.Constant Text levels)) (k : A.Kind) (of : Kind) →
      B.keyed_of (pointer_words name (length curried) k own) ≡ record { key = own; constant = Constant.Pointer name.span (length curried) of } → kind of ≡ k →
      Each (FitsConstant Text levels) curried → One (suc levels) own (A.pointer name curried k)
  pointer_one name curried k of back same ok =
      one_of
      (record {
        head = Constant.Pointer name.span (length curried) of;
        words = pointer_words name (length curried) k own;
        wide = refl;
        front = refl;
        back = back;
        count = refl;
        tree = rw (values-back levels curried, same);
        behind = λ used. refl;
      })
      (several levels deeper (unkeyed levels) (itself levels) curried ok)

  tagged : (c : A.Constant Text (suc levels)) → FitsConstant Text (suc levels) c → One (suc levels) own c
  tagged A.unit ok = leaf levels own A.unit Constant.Unit refl refl refl refl (λ used. refl)
  tagged (A.boolean false) ok = leaf levels own (A.boolean false) (Constant.Boolean false) refl refl refl refl (λ used. refl)
  tagged (A.boolean true) ok = leaf levels own (A.boolean true) (Constant.Boolean true) refl refl refl refl (λ used. refl)
  tagged (A.int n) ok = leaf levels own (A.int n) (Constant.Int n) refl (rw (to_z-of_z w64 n ok)) refl refl (λ used. refl)
  tagged (A.float bits) ok = leaf levels own (A.float bits) (Constant.Float bits) refl refl refl refl (λ used. refl)
  tagged (A.char code) ok = leaf levels own (A.char code) (Constant.Char code) refl (rw (bits_back ok)) refl refl (λ used. refl)
  tagged (A.str t) ok = leaf levels own (A.str t) (Constant.Str t.span) refl refl refl refl (λ used. refl)
  tagged (A.array items) ok = array-one items ok
  tagged (A.map entries) ok = map-one entries ok
  tagged (A.blob t) ok = leaf levels own (A.blob t) (Constant.Blob t.span) refl refl refl refl (λ used. refl)
  tagged (A.range from to) ok =
      leaf levels own (A.range from to) (Constant.Range from to) refl (rw (to_z-of_z w64 from ok.0, to_z-of_z w64 to ok.1)) refl refl (λ used. refl)
  tagged (A.range_inclusive from to) ok =
      leaf levels own (A.range_inclusive from to) (Constant.RangeInclusive from to) refl (rw (to_z-of_z w64 from ok.0, to_z-of_z w64 to ok.1)) refl refl (λ used. refl)
  tagged (A.pointer name curried A.normal) ok = pointer_one name curried A.normal Kind.Normal refl refl ok
  tagged (A.pointer name curried (A.script n)) ok = pointer_one name curried (A.script n) (Kind.Script n) refl refl ok

constant-one : (levels : ℕ) (own : Span) (c : A.Constant Text levels) → FitsConstant Text levels c → One levels own c
constant-one zero own c ok = absurd c
constant-one (suc levels) own c ok = tagged levels (constant-one levels) own c ok

-- ── any constants with any keys, and the top ones ──

-- the rows that they use grow back into them, and n rows behind these are left
pub rows_grow : {X : Type 0} (levels : ℕ) (key : X → Span) (constant : X → A.Constant Text levels) (xs : List X) →
    Each (λ x. FitsConstant Text levels (constant x)) xs → (n : ℕ) (rest : List ℕ) →
    grow levels (length xs) (keyed_rows (n + foldl (next levels key constant) 0 xs) (rows (rows_of levels key constant) xs ++ rest))
    ≡ record { trees = map (tree_of levels key constant) xs; rest = keyed_rows n rest }
rows_grow levels key constant xs ok n rest =
    let s = several levels (constant-one levels) key constant xs ok in
    let used : foldl (next levels key constant) 0 xs ≡ length s.keyed = omega (arith, s.behind 0) in
    rw (used, s.cut n rest, s.grown (keyed_rows n rest))

pub constants-back : (cs : List (A.Constant Text A.levels)) → Each (FitsConstant Text A.levels) cs → (behind : List ℕ) →
    TableGrows cs (rows (R.constant_rows A.levels R.nowhere) cs ++ behind)
constants-back cs ok behind =
    rw (zero-add (foldl (A.behind Text A.levels) 0 cs)) at (rows_grow A.levels (unkeyed A.levels) (itself A.levels) cs ok 0 behind)
