-- From the head, the items and the tail that were read and stored to the constant: what was got, and each refusal.
use Prim.Native.Nat.{ℕ, suc, ◌+◌}
use mathlib.Core.Path.{◌≡◌, refl, sym, ◌∙◌, ap}
use mathlib.Core.Bool.{true, false}
use mathlib.Core.List.{List, [], ◌++◌, foldl}
use lib.ListN.{length}
use Rattle.refusal.specs.declared.Refusal.{Refusal}
use Rattle.grammar.specs.declared.Cursor.{Cursor}
use Rattle.grammar.specs.declared.Span.{Span}
use Rattle.grammar.specs.Outcome.{Outcome, got, refused, Parser, after, pure, ◌>>=◌}
use Rattle.grammar.specs.Combinators.{Text, many}
use Rattle.grammar.proofs.Outcome.{got-ne-refused, got-value, got-next, Twice, bind-got}
use Rattle.tables.specs.Table.{rows}
use Rattle.format.specs.Artifact as A
use Rattle.format.specs.File.{kind}
use Rattle.format.specs.Rows.{kind_tag, kind_count, constant_rows}
use Rattle.constants.specs.Parts.{Front, unit, boolean, int, float, char, str, array, map, blob, range, pointer, head_is, Item, item_behind, item_rows, items, Ab, tail_of, head_row}
use Rattle.constants.proofs.Joined.{rest, kind_words, kind-joined}
use Rattle.constants.proofs.Plain.{Plain, plain-got, plain-refused, plain-behind, plain_rows, many-length}

module _ (places levels used : ℕ) (s : List ℕ) (key : Span) where
  -- the items of a front, as the code asks for them
  abbrev pub items_of : Front → Cursor → Outcome (List (Item levels))
  items_of f c = items places levels (head_is f).keyed (head_is f).items (used + 1) s c

  -- the constant that a front, its items and its tail make
  pub record Made (f : Front) (c : Cursor) (es : List (Item levels)) (ab : Ab) (last : Cursor) : Type 0 where
    pub value : A.Constant Text (suc levels)
    pub is : rest places levels used f s c ≡ got value last
    pub ends : A.behind Text (suc levels) used value ≡ foldl (item_behind levels) (used + 1) es
    pub words : constant_rows (suc levels) key value ≡ head_row (head_is f) key ab ++ rows (item_rows levels) es

  -- a scalar or a text: no items, and a tail that takes nothing
  alone : (f : Front) (v : A.Constant Text (suc levels)) (c : Cursor) (es : List (Item levels)) (later : Cursor) (ab : Ab) (last : Cursor) →
      rest places levels used f s c ≡ got v c → A.behind Text (suc levels) used v ≡ used + 1 →
      constant_rows (suc levels) key v ≡ head_row (head_is f) key ((head_is f).a, (head_is f).b) →
      ◌≡◌ {A = Outcome (List (Item levels))} (got [] c) (got es later) → ◌≡◌ {A = Outcome Ab} (got ((head_is f).a, (head_is f).b) later) (got ab last) → Made f c es ab last
  alone f v c es later ab last is ends words i t =
      let none : es ≡ [] = sym (got-value i) in
      let pair : ab ≡ ((head_is f).a, (head_is f).b) = sym (got-value t) in
      record { value = v; is = is ∙ ap (got v) (got-next i ∙ got-next t); ends = rw none ends; words = rw (none, pair) words }

  made_array : (n : ℕ) (c : Cursor) (es : List (Item levels)) (later : Cursor) (ab : Ab) (last : Cursor) →
      Plain places levels n (used + 1) s c es later → ◌≡◌ {A = Outcome Ab} (got (0, 0) later) (got ab last) → Made (array n) c es ab last
  unfolding ◌>>=◌ pure
  made_array n c es later ab last p t =
      let pair : ab ≡ (0, 0) = sym (got-value t) in
      let size : length p.xs ≡ n = many-length _ _ n (used + 1) s c p.xs later p.is in
      record {
        value = A.array p.xs;
        is = rw p.is (ap (got (A.array p.xs)) (got-next t));
        ends = rw p.same (sym (plain-behind levels (used + 1) p.xs));
        words = rw (p.same, pair, plain_rows levels p.xs, size);
      }

  made-map : (n : ℕ) (c : Cursor) (es : List (Item levels)) (later : Cursor) (ab : Ab) (last : Cursor) →
      items places levels true n (used + 1) s c ≡ got es later → ◌≡◌ {A = Outcome Ab} (got (0, 0) later) (got ab last) → Made (map n) c es ab last
  unfolding ◌>>=◌ pure items
  made-map n c es later ab last i t =
      let pair : ab ≡ (0, 0) = sym (got-value t) in
      let size : length es ≡ n = many-length _ _ n (used + 1) s c es later i in
      record {
        value = A.map es;
        is = rw i (ap (got (A.map es)) (got-next t));
        ends = refl;
        words = rw (pair, size);
      }

  made-pointer : (name : Text) (n : ℕ) (c : Cursor) (es : List (Item levels)) (later : Cursor) (ab : Ab) (last : Cursor) →
      Plain places levels n (used + 1) s c es later → Twice kind kind_words s later ab last → Made (pointer name n) c es ab last
  unfolding ◌>>=◌ pure
  made-pointer name n c es later ab last p k =
      let pair : ab ≡ (kind_tag k.value, kind_count k.value) = sym (got-value k.second) in
      let size : length p.xs ≡ n = many-length _ _ n (used + 1) s c p.xs later p.is in
      record {
        value = A.pointer name p.xs k.value;
        is = rw (p.is, k.first) (ap (got (A.pointer name p.xs k.value)) (got-next k.second));
        ends = rw p.same (sym (plain-behind levels (used + 1) p.xs));
        words = rw (p.same, pair, plain_rows levels p.xs, size);
      }

  pub made : (f : Front) (c : Cursor) (es : List (Item levels)) (later : Cursor) (ab : Ab) (last : Cursor) →
      items_of f c ≡ got es later → tail_of (head_is f) s later ≡ got ab last → Made f c es ab last
  unfolding items many pure
  made unit c es later ab last i t = alone unit A.unit c es later ab last refl refl refl i t
  made (boolean false) c es later ab last i t = alone (boolean false) (A.boolean false) c es later ab last refl refl refl i t
  made (boolean true) c es later ab last i t = alone (boolean true) (A.boolean true) c es later ab last refl refl refl i t
  made (int z) c es later ab last i t = alone (int z) (A.int z) c es later ab last refl refl refl i t
  made (float w) c es later ab last i t = alone (float w) (A.float w) c es later ab last refl refl refl i t
  made (char code) c es later ab last i t = alone (char code) (A.char code) c es later ab last refl refl refl i t
  made (str x) c es later ab last i t = alone (str x) (A.str x) c es later ab last refl refl refl i t
  made (array n) c es later ab last i t = made_array n c es later ab last (plain-got places levels n (used + 1) s c es later i) t
  made (map n) c es later ab last i t = made-map n c es later ab last i t
  made (blob x) c es later ab last i t = alone (blob x) (A.blob x) c es later ab last refl refl refl i t
  made (range false from to) c es later ab last i t = alone (range false from to) (A.range from to) c es later ab last refl refl refl i t
  made (range true from to) c es later ab last i t = alone (range true from to) (A.range_inclusive from to) c es later ab last refl refl refl i t
  made (pointer name n) c es later ab last i t =
      made-pointer name n c es later ab last (plain-got places levels n (used + 1) s c es later i)
      (bind-got kind kind_words s later ab last (sym (kind-joined s later) ∙ t))

  -- the items were refused
  pub items_refused : (f : Front) (c : Cursor) (r : Refusal) → items_of f c ≡ refused r → rest places levels used f s c ≡ refused r
  unfolding items many pure ◌>>=◌
  items_refused unit c r i = absurd (got-ne-refused i)
  items_refused (boolean false) c r i = absurd (got-ne-refused i)
  items_refused (boolean true) c r i = absurd (got-ne-refused i)
  items_refused (int z) c r i = absurd (got-ne-refused i)
  items_refused (float w) c r i = absurd (got-ne-refused i)
  items_refused (char code) c r i = absurd (got-ne-refused i)
  items_refused (str x) c r i = absurd (got-ne-refused i)
  items_refused (array n) c r i = rw (plain-refused places levels n (used + 1) s c r i)
  items_refused (map n) c r i = rw i
  items_refused (blob x) c r i = absurd (got-ne-refused i)
  items_refused (range false from to) c r i = absurd (got-ne-refused i)
  items_refused (range true from to) c r i = absurd (got-ne-refused i)
  items_refused (pointer name n) c r i = rw (plain-refused places levels n (used + 1) s c r i)

-- a read that is turned into something else was itself refused
pub turned-refused : {A B : Type 0} (p : Parser A) (f : A → B) (s : List ℕ) (c : Cursor) (r : Refusal) → (p >>= (λ v. pure (f v))) s c ≡ refused r → p s c ≡ refused r
unfolding ◌>>=◌ pure
turned-refused {A} p f s c r e = go (p s c) refl e
  where
    go : (o : Outcome A) → p s c ≡ o → after o (λ v next. got (f v) next) ≡ refused r → p s c ≡ refused r
    go (got v next) is q = absurd (got-ne-refused q)
    go (refused k) is q = let same : k ≡ r = cc in is ∙ ap refused same

module _ (places levels used : ℕ) (s : List ℕ) where
  pointer-refused : (name : Text) (n : ℕ) (c : Cursor) (es : List (Item levels)) (later : Cursor) (r : Refusal) →
      Plain places levels n (used + 1) s c es later → kind s later ≡ refused r → rest places levels used (pointer name n) s c ≡ refused r
  unfolding ◌>>=◌
  pointer-refused name n c es later r p k = rw (p.is, k)

  -- the tail was refused: only a pointer has one
  pub tail-refused : (f : Front) (c : Cursor) (es : List (Item levels)) (later : Cursor) (r : Refusal) →
      items places levels (head_is f).keyed (head_is f).items (used + 1) s c ≡ got es later → tail_of (head_is f) s later ≡ refused r →
      rest places levels used f s c ≡ refused r
  unfolding pure
  tail-refused unit c es later r i t = absurd (got-ne-refused t)
  tail-refused (boolean false) c es later r i t = absurd (got-ne-refused t)
  tail-refused (boolean true) c es later r i t = absurd (got-ne-refused t)
  tail-refused (int z) c es later r i t = absurd (got-ne-refused t)
  tail-refused (float w) c es later r i t = absurd (got-ne-refused t)
  tail-refused (char code) c es later r i t = absurd (got-ne-refused t)
  tail-refused (str x) c es later r i t = absurd (got-ne-refused t)
  tail-refused (array n) c es later r i t = absurd (got-ne-refused t)
  tail-refused (map n) c es later r i t = absurd (got-ne-refused t)
  tail-refused (blob x) c es later r i t = absurd (got-ne-refused t)
  tail-refused (range false from to) c es later r i t = absurd (got-ne-refused t)
  tail-refused (range true from to) c es later r i t = absurd (got-ne-refused t)
  tail-refused (pointer name n) c es later r i t =
      pointer-refused name n c es later r (plain-got places levels n (used + 1) s c es later i)
      (turned-refused kind (λ k. (kind_tag k, kind_count k)) s later r (sym (kind-joined s later) ∙ t))
