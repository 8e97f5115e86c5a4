-- Head, items and tail, one after the other, are the definition's constant.
use Rattle.std.proofs.Common.{if◌then◌else◌}
use Prim.Native.Nat.{ℕ, suc, ◌+◌}
use mathlib.Core.Path.{◌≡◌, refl}
use mathlib.Core.Bool.{Bool, true, false}
use mathlib.Core.List.{List}
use lib.Dec.{eqb}
use Rattle.refusal.specs.declared.Refusal.{Refusal}
use Rattle.refusal.specs.declared.Place.{Place}
use Rattle.grammar.specs.declared.Cursor.{Cursor}
use Rattle.grammar.specs.Outcome.{Outcome, got, refused, Parser, after, pure, refuse, ◌>>=◌, ◌>>◌}
use Rattle.grammar.specs.Combinators.{byte, fixed, Text, check, room, ◌⇒◌∣◌, unknown, many}
use Rattle.grammar.specs.Number.{number, index, signed}
use Rattle.format.specs.Artifact as A
use Rattle.format.specs.File.{bytes, string, scalar, kind, constant}
use Rattle.format.specs.Rows.{kind_tag, kind_count}
use Rattle.constants.specs.Parts.{Front, unit, boolean, int, float, char, str, array, map, blob, range, pointer, front_of, front, item_key, item, items, Ab, kind_of, kind_tail}

-- ── one read after another, in two groupings ──

module _ {A C : Type 0} (s : List ℕ) where
  pub same_after : (p : Parser A) (f g : A → Parser C) → ((v : A) (next : Cursor) → f v s next ≡ g v s next) → (c : Cursor) →
      (p >>= f) s c ≡ (p >>= g) s c
  unfolding ◌>>=◌
  same_after p f g h c = go (p s c)
    where
      go : (o : Outcome A) → after o (λ v next. f v s next) ≡ after o (λ v next. g v s next)
      go (got v next) = h v next
      go (refused r) = refl

module _ {A B C : Type 0} (s : List ℕ) where
  pub regroup : (p : Parser A) (f : A → Parser C) (g : A → Parser B) (k : B → Parser C) →
      ((v : A) (next : Cursor) → f v s next ≡ (g v >>= k) s next) → (c : Cursor) → (p >>= f) s c ≡ ((p >>= g) >>= k) s c
  unfolding ◌>>=◌
  regroup p f g k h c = go (p s c)
    where
      go : (o : Outcome A) → after o (λ v next. f v s next) ≡ after (after o (λ v next. g v s next)) (λ v next. k v s next)
      go (got v next) = h v next
      go (refused r) = refl

module _ {B C : Type 0} (k : B → Parser C) (s : List ℕ) (c : Cursor) where
  pub at_once : (v : B) → k v s c ≡ (pure v >>= k) s c
  unfolding pure ◌>>=◌
  at_once v = refl

  pub choose : (tag n : ℕ) (p : Parser C) (q : Parser B) (ps : ℕ → Parser C) (qs : ℕ → Parser B) →
      p s c ≡ (q >>= k) s c → ps tag s c ≡ (qs tag >>= k) s c → (n ⇒ p ∣ ps) tag s c ≡ ((n ⇒ q ∣ qs) tag >>= k) s c
  unfolding ◌⇒◌∣◌
  choose tag n p q ps qs e es = go (eqb tag n)
    where
      go : (b : Bool) → (if b then p else ps tag) s c ≡ ((if b then q else qs tag) >>= k) s c
      go true = e
      go false = es

  pub no-tag : (tag : ℕ) → unknown Place.Constant tag s c ≡ (unknown Place.Constant tag >>= k) s c
  unfolding unknown refuse ◌>>=◌
  no-tag tag = refl

-- ── a constant ──

-- what is still to be read behind the head
abbrev pub rest : ℕ → (levels : ℕ) → ℕ → Front → Parser (A.Constant Text (suc levels))
rest places levels used unit = pure A.unit
rest places levels used (boolean b) = pure (A.boolean b)
rest places levels used (int n) = pure (A.int n)
rest places levels used (float word) = pure (A.float word)
rest places levels used (char code) = pure (A.char code)
rest places levels used (str t) = pure (A.str t)
rest places levels used (array n) = do
  xs ← many (A.behind Text levels) (constant places levels) n (used + 1)
  pure (A.array xs)
rest places levels used (map n) = do
  entries ← items places levels true n (used + 1)
  pure (A.map entries)
rest places levels used (blob t) = pure (A.blob t)
rest places levels used (range false from to) = pure (A.range from to)
rest places levels used (range true from to) = pure (A.range_inclusive from to)
rest places levels used (pointer name n) = do
  xs ← many (A.behind Text levels) (constant places levels) n (used + 1)
  k ← kind
  pure (A.pointer name xs k)

pub joined : (places levels used : ℕ) (s : List ℕ) (c : Cursor) →
    constant places (suc levels) used s c ≡ (room 2 places used >> (front >>= rest places levels used)) s c
unfolding constant front_of items item item_key
joined places levels used s c =
    same_after s (room 2 places used) _ _
    (λ _. regroup s byte _ _ k
    (λ tag at. choose k s at tag 0x00 _ _ _ _ (at_once k s at unit)
    (choose k s at tag 0x01 _ _ _ _ (at_once k s at (boolean false))
    (choose k s at tag 0x02 _ _ _ _ (at_once k s at (boolean true))
    (choose k s at tag 0x03 _ _ _ _ (regroup s signed _ _ k (λ n next. at_once k s next (int n)) at)
    (choose k s at tag 0x04 _ _ _ _ (regroup s (fixed 8) _ _ k (λ w next. at_once k s next (float w)) at)
    (choose k s at tag 0x05 _ _ _ _
    (regroup s index _ _ k (λ code. regroup s (check (scalar code) Refusal.MalformedVarint) _ _ k (λ _ next. at_once k s next (char code))) at)
    (choose k s at tag 0x06 _ _ _ _ (regroup s string _ _ k (λ t next. at_once k s next (str t)) at)
    (choose k s at tag 0x07 _ _ _ _ (regroup s (number 64) _ _ k (λ n next. at_once k s next (array n)) at)
    (choose k s at tag 0x08 _ _ _ _ (regroup s (number 64) _ _ k (λ n next. at_once k s next (map n)) at)
    (choose k s at tag 0x09 _ _ _ _ (regroup s bytes _ _ k (λ t next. at_once k s next (blob t)) at)
    (choose k s at tag 0x0A _ _ _ _
    (regroup s signed _ _ k (λ from. regroup s signed _ _ k (λ to next. at_once k s next (range false from to))) at)
    (choose k s at tag 0x0B _ _ _ _
    (regroup s signed _ _ k (λ from. regroup s signed _ _ k (λ to next. at_once k s next (range true from to))) at)
    (choose k s at tag 0x0D _ _ _ _
    (regroup s string _ _ k (λ name. regroup s (number 64) _ _ k (λ n next. at_once k s next (pointer name n))) at)
    (no-tag k s at tag)))))))))))))))
    c
  where
    k : Front → Parser (A.Constant Text (suc levels))
    k = rest places levels used

-- ── a pointer's kind ──

abbrev pub kind_words : A.Kind → Parser Ab
kind_words k = pure (kind_tag k, kind_count k)

pub kind-joined : (s : List ℕ) (c : Cursor) → kind_tail s c ≡ (kind >>= kind_words) s c
unfolding kind_of kind
kind-joined s c =
    regroup s byte _ _ kind_words
    (λ tag at. choose kind_words s at tag 0x81 _ _ _ _ (at_once kind_words s at A.normal)
    (choose kind_words s at tag 0x82 _ _ _ _ (regroup s (number 64) _ _ kind_words (λ n next. at_once kind_words s next (A.script n)) at)
    (no-tag kind_words s at tag)))
    c
