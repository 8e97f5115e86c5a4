-- The rows of constants that were read: they follow each other exactly, the levels do for them, and each row and key keeps the rules.
use Rattle.std.proofs.Common.{if◌then◌else◌}
use Prim.Native.Nat.{ℕ, zero, suc, ◌+◌, ◌*◌}
use mathlib.Core.Path.{◌≡◌, refl, sym, ◌∙◌, ap}
use mathlib.Core.Bool.{Bool, true, false, not, ◌||◌}
use mathlib.Core.List.{List, [], ◌∷◌, ◌++◌, foldl, append_assoc, append-nil}
use native.Mathlib.Omega.{arith}
use lib.ListN.{length, length-append}
use lib.Dec.{eqb}
use lib.Seq.{take_at, drop_at}
use borrow.Author.Tests.{le-leb}
use Rattle.grammar.specs.declared.Span.{Span}
use Rattle.grammar.specs.Combinators.{Text, Each}
use Rattle.tables.specs.Table.{rows}
use Rattle.format.specs.Artifact as A
use Rattle.format.specs.File.{scalar}
use Rattle.format.specs.Rows as R
use Rattle.rows.specs.Back.{cut, word}
use Rattle.stored.proofs.Stored.{each}
use Rattle.model.specs.Rules.{tag, owns, skip, entries, keyed, fits, exactly, lies, span_at, named, texted, is_text, known_constant, behind, within}
use Rattle.returned.proofs.Texts.{Stands, Spelled, Told}
use Rattle.returned.proofs.Lists.{each_append}
use Rattle.returned.proofs.Held.{has_room}

-- ── what a row and a key keep ──

pub record Keeps (s row : List ℕ) : Type 0 where
  pub known : known_constant row ≡ true
  pub inside : (not (texted (tag row)) || lies s (span_at 3 row)) ≡ true
  pub text : (not (named (tag row)) || is_text s (span_at 3 row)) ≡ true
  pub char : (not (eqb (tag row) 0x05) || scalar (word row 1)) ≡ true

pub record Key (s : List ℕ) (span : Span) : Type 0 where
  pub inside : lies s span ≡ true
  pub text : is_text s span ≡ true

abbrev pub KeyRow : List ℕ → List ℕ → Type 0
KeyRow s row = Key s (span_at 6 row)

-- texts that stand in the bytes have spans that keep them
pub stands-inside : {s : List ℕ} (t : Text) → Stands s t → lies s t.span ≡ true
stands-inside t ok = le-leb _ _ ok.lies

pub spelled-key : {s : List ℕ} (t : Text) → Spelled s t → Key s t.span
spelled-key t ok = record { inside = stands-inside t ok.stands; text = rw (← ok.stands.is) ok.utf8 }

-- what is asked of a row only where a test of it holds
abbrev Where : Bool → Type 0 → Type 0
Where true T = T
Where false T = Unit

-- ── one constant, and several ──

-- constants whose rows have no keys
module _ (levels : ℕ) where
  abbrev unkeyed : A.Constant Text levels → Span
  unkeyed c = R.nowhere

  abbrev itself : A.Constant Text levels → A.Constant Text levels
  itself c = c

module _ (s : List ℕ) where
  -- its rows, cut apart, are stepped over as one constant, and keep the rules on rows and keys
  record One (levels : ℕ) (key : Span) (c : A.Constant Text levels) : Type 0 where
    own : List (List ℕ)
    cuts : (n : ℕ) (rest : List ℕ) → cut 8 (n + length own) (R.constant_rows levels key c ++ rest) ≡ own ++ cut 8 n rest
    used : (from : ℕ) → A.behind Text levels from c ≡ from + length own
    wide : length (R.constant_rows levels key c) ≡ 8 * length own
    skips : (n : ℕ) (rest : List (List ℕ)) → skip (own ++ rest) (suc n) ≡ skip rest n
    owes : (n : ℕ) (rest : List (List ℕ)) → exactly (own ++ rest) (suc n) ≡ exactly rest n
    shallow : (n : ℕ) (rest : List (List ℕ)) → within levels (suc n) (own ++ rest) ≡ within levels n rest
    keeps : Each (Keeps s) own
    keys : (rest : List (List ℕ)) → Each (KeyRow s) (keyed rest) → Each (KeyRow s) (keyed (own ++ rest))
    enters : (n : ℕ) (rest : List (List ℕ)) → Key s key → Each (KeyRow s) (entries n rest) → Each (KeyRow s) (entries (suc n) (own ++ rest))

  -- and those of several, with any keys, as so many
  record Several {X : Type 0} (levels : ℕ) (key : X → Span) (constant : X → A.Constant Text levels) (xs : List X) : Type 0 where
    all : List (List ℕ)
    cuts : (n : ℕ) (rest : List ℕ) → cut 8 (n + length all) (rows (λ x. R.constant_rows levels (key x) (constant x)) xs ++ rest) ≡ all ++ cut 8 n rest
    used : (from : ℕ) → foldl (λ from x. A.behind Text levels from (constant x)) from xs ≡ from + length all
    wide : length (rows (λ x. R.constant_rows levels (key x) (constant x)) xs) ≡ 8 * length all
    skips : (n : ℕ) (rest : List (List ℕ)) → skip (all ++ rest) (length xs + n) ≡ skip rest n
    owes : (n : ℕ) (rest : List (List ℕ)) → exactly (all ++ rest) (length xs + n) ≡ exactly rest n
    shallow : (rest : List (List ℕ)) → within levels (length xs) (all ++ rest) ≡ behind rest
    keeps : Each (Keeps s) all
    keys : (rest : List (List ℕ)) → Each (KeyRow s) (keyed rest) → Each (KeyRow s) (keyed (all ++ rest))
    enters : (rest : List (List ℕ)) → Each (λ x. Key s (key x)) xs → Each (KeyRow s) (entries (length xs) (all ++ rest))

  within_none : (levels : ℕ) (rest : List (List ℕ)) → within levels 0 rest ≡ behind rest
  unfolding within
  within_none zero rest = refl
  within_none (suc levels) rest = refl

  skip-none : (rest : List (List ℕ)) → skip rest 0 ≡ rest
  unfolding skip
  skip-none [] = refl
  skip-none (row ∷ rest) = refl

  nothing : {X : Type 0} (levels : ℕ) (key : X → Span) (constant : X → A.Constant Text levels) → Several levels key constant []
  unfolding entries
  nothing levels key constant =
      record {
        all = [];
        cuts = λ n rest. let none : n + 0 ≡ n = omega arith in rw none;
        used = λ from. omega arith;
        wide = refl;
        skips = λ n rest. let none : 0 + n ≡ n = omega arith in rw none;
        owes = λ n rest. let none : 0 + n ≡ n = omega arith in rw none;
        shallow = within_none levels;
        keeps = tt;
        keys = λ rest ok. ok;
        enters = λ rest ok. tt;
      }

  -- one in front of others
  more : {X : Type 0} {levels : ℕ} {key : X → Span} {constant : X → A.Constant Text levels} (x : X) (xs : List X) → One levels (key x) (constant x) →
      Several levels key constant xs → Several levels key constant (x ∷ xs)
  more {X} {levels} {key} {constant} x xs o r =
      record {
        all = o.own ++ r.all;
        cuts = λ n rest.
            let counts : n + length (o.own ++ r.all) ≡ n + length r.all + length o.own = omega (arith, length-append o.own r.all) in
            rw (
              counts,
              append_assoc (words x) (rows words xs) rest,
              o.cuts (n + length r.all) (rows words xs ++ rest),
              r.cuts n rest,
              append_assoc o.own r.all (cut 8 n rest),
            );
        used = λ from. r.used (A.behind Text levels from (constant x)) ∙ omega (arith, o.used from, length-append o.own r.all);
        wide = omega (arith, length-append (words x) (rows words xs), length-append o.own r.all, o.wide, r.wide);
        skips = λ n rest. rw (append_assoc o.own r.all rest, next n, o.skips (length xs + n) (r.all ++ rest)) (r.skips n rest);
        owes = λ n rest. rw (append_assoc o.own r.all rest, next n, o.owes (length xs + n) (r.all ++ rest)) (r.owes n rest);
        shallow = λ rest. rw (append_assoc o.own r.all rest, o.shallow (length xs) (r.all ++ rest)) (r.shallow rest);
        keeps = each_append _ o.own r.all o.keeps r.keeps;
        keys = λ rest ok. rw (append_assoc o.own r.all rest) (o.keys (r.all ++ rest) (r.keys rest ok));
        enters = λ rest ok. rw (append_assoc o.own r.all rest) (o.enters (length xs) (r.all ++ rest) ok.0 (r.enters rest ok.1));
      }
    where
      words : X → List ℕ
      words x = R.constant_rows levels (key x) (constant x)

      next : (n : ℕ) → suc (length xs) + n ≡ suc (length xs + n)
      next n = omega arith

  several : {X : Type 0} (levels : ℕ) → ((own : Span) (c : A.Constant Text levels) → Told s levels c → One levels own c) →
      (key : X → Span) (constant : X → A.Constant Text levels) (xs : List X) → Each (λ x. Told s levels (constant x)) xs → Several levels key constant xs
  several levels one key constant [] ok = nothing levels key constant
  several levels one key constant (x ∷ xs) ok = more x xs (one (key x) (constant x) ok.0) (several levels one key constant xs ok.1)

  -- ── one constant, of its own row and of its items ──

  record Headed {X : Type 0} (levels : ℕ) (key : X → Span) (constant : X → A.Constant Text levels) (items : List X) (own : Span) (c : A.Constant Text (suc levels)) : Type 0 where
    words : List ℕ
    wide : length words ≡ 8
    front : R.constant_rows (suc levels) own c ≡ words ++ rows (λ x. R.constant_rows levels (key x) (constant x)) items
    count : owns words ≡ length items
    used : (from : ℕ) → A.behind Text (suc levels) from c ≡ foldl (λ from x. A.behind Text levels from (constant x)) (from + 1) items
    keyed : span_at 6 words ≡ own
    keeps : Keeps s words
    keys : Where (eqb (tag words) 0x08) ((word words 5 ≡ length items) × Each (λ x. Key s (key x)) items)

  one_of : {X : Type 0} {levels : ℕ} {key : X → Span} {constant : X → A.Constant Text levels} {items : List X} {own : Span} {c : A.Constant Text (suc levels)} →
      Headed levels key constant items own c → Several levels key constant items → One (suc levels) own c
  unfolding skip exactly within keyed entries
  one_of {X} {levels} {key} {constant} {items} {own} {c} h r =
      record {
        own = h.words ∷ r.all;
        cuts = λ n rest.
            let counts : n + suc (length r.all) ≡ suc (n + length r.all) = omega arith in
            rw (
              counts,
              h.front,
              append_assoc h.words inner rest,
              take_at h.words (inner ++ rest) 8 h.wide,
              drop_at h.words (inner ++ rest) 8 h.wide,
              r.cuts n rest,
            );
        used = λ from. h.used from ∙ r.used (from + 1) ∙ omega arith;
        wide = rw h.front (omega (arith, length-append h.words inner, h.wide, r.wide));
        skips = λ n rest. ap (λ (k : ℕ). skip (r.all ++ rest) (k + n)) h.count ∙ r.skips n rest;
        owes = λ n rest. ap (λ (k : ℕ). exactly (r.all ++ rest) (k + n)) h.count ∙ r.owes n rest;
        shallow = λ n rest. rw (h.count, r.shallow rest);
        keeps = (h.keeps, r.keeps);
        keys = λ rest ok.
            each_append (KeyRow s) (if eqb (tag h.words) 0x08 then entries (word h.words 5) (r.all ++ rest) else []) (keyed (r.all ++ rest))
            (of_map (eqb (tag h.words) 0x08) h.keys rest) (r.keys rest ok);
        enters = λ n rest k ok. (rw h.keyed k, rw (h.count, passed rest) ok);
      }
    where
      inner : List ℕ
      inner = rows (λ x. R.constant_rows levels (key x) (constant x)) items

      passed : (rest : List (List ℕ)) → skip (r.all ++ rest) (length items) ≡ rest
      passed rest = let none : length items ≡ length items + 0 = omega arith in rw none (r.skips 0 rest ∙ skip-none rest)

      of_map : (t : Bool) → Where t ((word h.words 5 ≡ length items) × Each (λ x. Key s (key x)) items) → (rest : List (List ℕ)) →
          Each (KeyRow s) (if t then entries (word h.words 5) (r.all ++ rest) else [])
      of_map true keys rest = rw keys.0 (r.enters rest keys.1)
      of_map false keys rest = tt

  -- a constant without items
  leaf : (levels : ℕ) (own : Span) (c : A.Constant Text (suc levels)) → length (R.constant_rows (suc levels) own c) ≡ 8 → owns (R.constant_rows (suc levels) own c) ≡ 0 →
      span_at 6 (R.constant_rows (suc levels) own c) ≡ own → Where (eqb (tag (R.constant_rows (suc levels) own c)) 0x08) ((word (R.constant_rows (suc levels) own c) 5 ≡ 0) × Unit) →
      ((from : ℕ) → A.behind Text (suc levels) from c ≡ from + 1) → Keeps s (R.constant_rows (suc levels) own c) → One (suc levels) own c
  leaf levels own c wide count keyed keys used keeps =
      one_of {X = A.Constant Text levels} {key = unkeyed levels} {constant = itself levels} {items = []}
      (record { words = R.constant_rows (suc levels) own c; wide = wide; front = sym (append-nil _); count = count; used = used; keyed = keyed; keeps = keeps; keys = keys })
      (nothing levels (unkeyed levels) (itself levels))

  -- a constant of one level more, by its tag
  module _ (levels : ℕ) (deeper : (own : Span) (c : A.Constant Text levels) → Told s levels c → One levels own c) (own : Span) where
    array-one : (items : List (A.Constant Text levels)) → Each (Told s levels) items → One (suc levels) own (A.array items)
    array-one items ok =
        one_of
        (record {
          words = R.constant_words 0x07 0 0 0 0 (length items) own.start own.size;
          wide = refl;
          front = refl;
          count = refl;
          used = λ from. refl;
          keyed = refl;
          keeps = record { known = refl; inside = refl; text = refl; char = refl };
          keys = tt;
        })
        (several levels deeper (unkeyed levels) (itself levels) items ok)

    map-one : (entries : List (Text × A.Constant Text levels)) → Each (λ entry. Spelled s entry.0 × Told s levels entry.1) entries → One (suc levels) own (A.map entries)
    map-one entries ok =
        one_of
        (record {
          words = R.constant_words 0x08 0 0 0 0 (length entries) own.start own.size;
          wide = refl;
          front = refl;
          count = refl;
          used = λ from. refl;
          keyed = refl;
          keeps = record { known = refl; inside = refl; text = refl; char = refl };
          keys = (refl, each (λ entry ok. spelled-key entry.0 ok.0) entries ok);
        })
        (several levels deeper (λ entry. entry.0.span) (λ entry. entry.1) entries (each (λ entry ok. ok.1) entries ok))

    pointer_one : (name : Text) (curried : List (A.Constant Text levels)) (k : A.Kind) → Spelled s name → Each (Told s levels) curried →
        One (suc levels) own (A.pointer name curried k)
    pointer_one name curried k told ok =
        one_of
        (record {
          words = R.constant_words 0x0D (R.kind_tag k) (R.kind_count k) name.span.start name.span.size (length curried) own.start own.size;
          wide = refl;
          front = refl;
          count = refl;
          used = λ from. refl;
          keyed = refl;
          keeps = record { known = kind-known k; inside = (spelled-key name told).inside; text = (spelled-key name told).text; char = refl };
          keys = tt;
        })
        (several levels deeper (unkeyed levels) (itself levels) curried ok)
      where
        kind-known : (k : A.Kind) → (eqb (R.kind_tag k) 0x81 || eqb (R.kind_tag k) 0x82) ≡ true
        kind-known A.normal = refl
        kind-known (A.script n) = refl

    tagged : (c : A.Constant Text (suc levels)) → Told s (suc levels) c → One (suc levels) own c
    tagged A.unit ok = leaf levels own A.unit refl refl refl tt (λ from. refl) (record { known = refl; inside = refl; text = refl; char = refl })
    tagged (A.boolean false) ok = leaf levels own (A.boolean false) refl refl refl tt (λ from. refl) (record { known = refl; inside = refl; text = refl; char = refl })
    tagged (A.boolean true) ok = leaf levels own (A.boolean true) refl refl refl tt (λ from. refl) (record { known = refl; inside = refl; text = refl; char = refl })
    tagged (A.int n) ok = leaf levels own (A.int n) refl refl refl tt (λ from. refl) (record { known = refl; inside = refl; text = refl; char = refl })
    tagged (A.float bits) ok = leaf levels own (A.float bits) refl refl refl tt (λ from. refl) (record { known = refl; inside = refl; text = refl; char = refl })
    tagged (A.char code) ok = leaf levels own (A.char code) refl refl refl tt (λ from. refl) (record { known = refl; inside = refl; text = refl; char = ok })
    tagged (A.str t) ok =
        leaf levels own (A.str t) refl refl refl tt (λ from. refl)
        (record { known = refl; inside = (spelled-key t ok).inside; text = (spelled-key t ok).text; char = refl })
    tagged (A.array items) ok = array-one items ok
    tagged (A.map entries) ok = map-one entries ok
    tagged (A.blob t) ok = leaf levels own (A.blob t) refl refl refl tt (λ from. refl) (record { known = refl; inside = stands-inside t ok; text = refl; char = refl })
    tagged (A.range from to) ok = leaf levels own (A.range from to) refl refl refl tt (λ from. refl) (record { known = refl; inside = refl; text = refl; char = refl })
    tagged (A.range_inclusive from to) ok =
        leaf levels own (A.range_inclusive from to) refl refl refl tt (λ from. refl) (record { known = refl; inside = refl; text = refl; char = refl })
    tagged (A.pointer name curried k) ok = pointer_one name curried k ok.0 ok.1

  constant-one : (levels : ℕ) (own : Span) (c : A.Constant Text levels) → Told s levels c → One levels own c
  constant-one zero own c ok = absurd c
  constant-one (suc levels) own c ok = tagged levels (constant-one levels) own c ok

-- ── top constants, in front of a table ──

pub record Tops (s table : List ℕ) (levels used n : ℕ) : Type 0 where
  pub room : fits used 8 table ≡ true
  pub owes : exactly (cut 8 used table) n ≡ true
  pub shallow : within levels n (cut 8 used table) ≡ behind []
  pub keeps : Each (Keeps s) (cut 8 used table)
  pub keys : Each (KeyRow s) (keyed (cut 8 used table))

pub tops : (s : List ℕ) (levels : ℕ) (cs : List (A.Constant Text levels)) → Each (Told s levels) cs → (table rest : List ℕ) →
    table ≡ rows (R.constant_rows levels R.nowhere) cs ++ rest → Tops s table levels (foldl (A.behind Text levels) 0 cs) (length cs)
unfolding exactly keyed
tops s levels cs ok table rest e =
    record {
      room = rw (e, used) (has_room (length r.all) 8 (rows (R.constant_rows levels R.nowhere) cs) rest (omega arith) (omega (arith, r.wide)));
      owes = let none : length cs ≡ length cs + 0 = omega arith in rw (are, none) (r.owes 0 []);
      shallow = rw are (r.shallow []);
      keeps = rw (are, append-nil r.all) r.keeps;
      keys = rw are (r.keys [] tt);
    }
  where
    r : Several s levels (unkeyed levels) (itself levels) cs
    r = several s levels (constant-one s levels) (unkeyed levels) (itself levels) cs ok

    used : foldl (A.behind Text levels) 0 cs ≡ length r.all
    used = omega (arith, r.used 0)

    are : cut 8 (foldl (A.behind Text levels) 0 cs) table ≡ r.all ++ []
    are = rw (r.used 0, e) (r.cuts 0 rest)
