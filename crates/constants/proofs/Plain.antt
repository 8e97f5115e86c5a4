-- Items without keys are a list of constants, each with no key; and a list has as many items as were asked for.
use Prim.Native.Nat.{ℕ, zero, suc}
use mathlib.Core.Path.{◌≡◌, refl, sym, ◌∙◌, ap}
use mathlib.Core.Bool.{false}
use mathlib.Core.List.{List, [], ◌∷◌, foldl}
use lib.ListN.{length}
use Rattle.refusal.specs.declared.Refusal.{Refusal}
use Rattle.grammar.specs.declared.Cursor.{Cursor}
use Rattle.grammar.specs.Outcome.{Outcome, got, refused, Parser, after, pure, ◌>>=◌}
use Rattle.grammar.specs.Combinators.{Text, many}
use Rattle.grammar.proofs.Outcome.{got-ne-refused, got-value, got-next, Twice, bind-got}
use Rattle.tables.specs.Table.{rows}
use Rattle.format.specs.Artifact.{Constant, behind}
use Rattle.format.specs.File.{constant}
use Rattle.format.specs.Rows.{nowhere, constant_rows}
use Rattle.constants.specs.Parts.{Item, item_key, item, item_behind, item_rows, items}

abbrev pub none : Text
none = record { span = nowhere; bytes = [] }

abbrev pub unkeyed : {X : Type 0} → List X → List (Text × X)
unkeyed [] = []
unkeyed (x ∷ xs) = (none, x) ∷ unkeyed xs

abbrev pub unkeyed_in : {X : Type 0} → Outcome (List X) → Outcome (List (Text × X))
unkeyed_in (got xs next) = got (unkeyed xs) next
unkeyed_in (refused r) = refused r

pub plain-items : (places levels n used : ℕ) (s : List ℕ) (c : Cursor) →
    items places levels false n used s c ≡ unkeyed_in (many (behind Text levels) (constant places levels) n used s c)
unfolding items item item_key many ◌>>=◌ pure
plain-items places levels zero used s c = refl
plain-items places levels (suc n) used s c = one (plain-items places levels n) (constant places levels used s c)
  where
    more : (v : Constant Text levels) (o : Outcome (List (Constant Text levels))) →
        after (unkeyed_in o) (λ xs last. got ((none, v) ∷ xs) last) ≡ unkeyed_in (after o (λ xs last. got (v ∷ xs) last))
    more v (got xs last) = refl
    more v (refused r) = refl

    one : ((used : ℕ) (s : List ℕ) (c : Cursor) → items places levels false n used s c ≡ unkeyed_in (many (behind Text levels) (constant places levels) n used s c)) →
        (o : Outcome (Constant Text levels)) →
        after (after o (λ v next. got (none, v) next)) (λ x next. after (items places levels false n (item_behind levels used x) s next) (λ xs last. got (x ∷ xs) last))
        ≡ unkeyed_in (after o (λ v next. after (many (behind Text levels) (constant places levels) n (behind Text levels used v) s next) (λ xs last. got (v ∷ xs) last)))
    one ih (got v next) = rw (ih (behind Text levels used v) s next) (more v (many (behind Text levels) (constant places levels) n (behind Text levels used v) s next))
    one ih (refused r) = refl

-- what was got as items without keys
pub record Plain (places levels n used : ℕ) (s : List ℕ) (c : Cursor) (es : List (Item levels)) (last : Cursor) : Type 0 where
  pub xs : List (Constant Text levels)
  pub is : many (behind Text levels) (constant places levels) n used s c ≡ got xs last
  pub same : es ≡ unkeyed xs

pub plain-got : (places levels n used : ℕ) (s : List ℕ) (c : Cursor) (es : List (Item levels)) (last : Cursor) →
    items places levels false n used s c ≡ got es last → Plain places levels n used s c es last
plain-got places levels n used s c es last e = go _ refl (sym (plain-items places levels n used s c) ∙ e)
  where
    go : (o : Outcome (List (Constant Text levels))) → many (behind Text levels) (constant places levels) n used s c ≡ o → unkeyed_in o ≡ got es last →
        Plain places levels n used s c es last
    go (got xs next) is q = record { xs = xs; is = is ∙ ap (got xs) (got-next q); same = sym (got-value q) }
    go (refused r) is q = absurd (got-ne-refused (sym q))

pub plain-refused : (places levels n used : ℕ) (s : List ℕ) (c : Cursor) (r : Refusal) →
    items places levels false n used s c ≡ refused r → many (behind Text levels) (constant places levels) n used s c ≡ refused r
plain-refused places levels n used s c r e = go _ refl (sym (plain-items places levels n used s c) ∙ e)
  where
    go : (o : Outcome (List (Constant Text levels))) → many (behind Text levels) (constant places levels) n used s c ≡ o → unkeyed_in o ≡ refused r →
        many (behind Text levels) (constant places levels) n used s c ≡ refused r
    go (got xs next) is q = absurd (got-ne-refused q)
    go (refused k) is q = let same : k ≡ r = cc in is ∙ ap refused same

-- the places behind them and their rows
pub plain-behind : (levels used : ℕ) (xs : List (Constant Text levels)) → foldl (item_behind levels) used (unkeyed xs) ≡ foldl (behind Text levels) used xs
plain-behind levels used [] = refl
plain-behind levels used (x ∷ xs) = plain-behind levels (behind Text levels used x) xs

pub plain_rows : (levels : ℕ) (xs : List (Constant Text levels)) → rows (item_rows levels) (unkeyed xs) ≡ rows (constant_rows levels nowhere) xs
plain_rows levels [] = refl
plain_rows levels (x ∷ xs) = rw (plain_rows levels xs)

-- as many as were asked for
pub many-length : {A S : Type 0} (next : S → A → S) (p : S → Parser A) (n : ℕ) (used : S) (s : List ℕ) (c : Cursor) (xs : List A) (last : Cursor) →
    many next p n used s c ≡ got xs last → length xs ≡ n
unfolding many pure
many-length next p zero used s c xs last e = sym (ap length (got-value e))
many-length {A} {S} next p (suc n) used s c xs last e = go (many-length next p n) (bind-got (p used) _ s c xs last e)
  where
    go : ((used : S) (s : List ℕ) (c : Cursor) (xs : List A) (last : Cursor) → many next p n used s c ≡ got xs last → length xs ≡ n) →
        Twice (p used) (λ x. many next p n (next used x) >>= (λ ys. pure (x ∷ ys))) s c xs last → length xs ≡ suc n
    go ih one = end (bind-got (many next p n (next used one.value)) (λ ys. pure (one.value ∷ ys)) s one.next xs last one.second)
      where
        end : Twice (many next p n (next used one.value)) (λ ys. pure (one.value ∷ ys)) s one.next xs last → length xs ≡ suc n
        end two = sym (ap length (got-value two.second)) ∙ ap suc (ih (next used one.value) s one.next two.value two.next two.first)
