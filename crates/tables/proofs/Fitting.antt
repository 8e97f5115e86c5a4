-- What was got fits its table: the definition refuses a record for which there is no place.
use Prim.Native.Nat.{ℕ, zero, suc, ◌+◌, ◌*◌, ◌/◌, ◌≤◌, ◌<◌}
use mathlib.Core.Path.{◌≡◌, refl, sym, ◌∙◌}
use mathlib.Core.Bool.{Bool, true, false}
use mathlib.Core.List.{List, [], ◌∷◌, foldl}
use native.Mathlib.Nat.{le_trans, mul-le-mul_right, div-mul-le_self}
use native.Mathlib.Omega.{arith}
use lib.ListN.{length}
use lib.Dec.{ltb}
use borrow.Author.Tests.{ltb-true}
use Rattle.refusal.specs.declared.Refusal.{Refusal}
use Rattle.grammar.specs.declared.Cursor.{Cursor}
use Rattle.grammar.specs.Outcome.{got, Parser, after, pure, refuse, ◌>>=◌, ◌>>◌}
use Rattle.grammar.specs.Combinators.{check, room, many}
use Rattle.grammar.proofs.Outcome.{got-ne-refused, got-value, bind-got}
use Rattle.tables.specs.Table.{Used, behind_one, nested, records}

-- what each record keeps of the places used, a list keeps
pub many-keeps : {A S : Type 0} (next : S → A → S) (p : S → Parser A) (Ok : S → Type 0) (s : List ℕ) →
    ((used : S) (c : Cursor) (x : A) (later : Cursor) → Ok used → p used s c ≡ got x later → Ok (next used x)) →
    (n : ℕ) (used : S) (c : Cursor) (xs : List A) (last : Cursor) → Ok used → many next p n used s c ≡ got xs last → Ok (foldl next used xs)
unfolding many pure
many-keeps next p Ok s one zero used c xs last ok e = rw (← got-value e) ok
many-keeps next p Ok s one (suc n) used c xs last ok e =
    let a = bind-got (p used) _ s c xs last e in
    let b = bind-got (many next p n (next used a.value)) (λ ys. pure (a.value ∷ ys)) s a.next xs last a.second in
    rw (← got-value b.second)
    (many-keeps next p Ok s one n (next used a.value) a.next b.value b.next (one used c a.value a.next ok a.first) b.first)

-- a record that was got had a place
pub had-place : {A : Type 0} (table places used : ℕ) (p : Parser A) (s : List ℕ) (c : Cursor) (x : A) (later : Cursor) →
    (room table places used >> p) s c ≡ got x later → (used < places) × (p s c ≡ got x later)
unfolding room check ◌>>=◌ pure refuse
had-place table places used p s c x later e = go (ltb used places) refl e
  where
    go : (t : Bool) → ltb used places ≡ t → after (check t (Refusal.Full table) s c) (λ _ next. p s next) ≡ got x later → (used < places) × (p s c ≡ got x later)
    go true t e = (ltb-true _ _ t, e)
    go false t e = absurd (got-ne-refused (sym e))

foldl-count : {A : Type 0} (from : ℕ) (xs : List A) → foldl (λ used _. used + 1) from xs ≡ from + length xs
foldl-count from [] = omega arith
foldl-count from (x ∷ xs) = foldl-count (from + 1) xs ∙ omega arith

pub records-fit : {A : Type 0} (table places : ℕ) (p : Parser A) (s : List ℕ) (n from : ℕ) (c : Cursor) (xs : List A) (last : Cursor) →
    from ≤ places → records table places p n from s c ≡ got xs last → from + length xs ≤ places
unfolding records
records-fit table places p s n from c xs last h e =
    rw (foldl-count from xs) at
    (many-keeps (λ used _. used + 1) (λ used. room table places used >> p) (λ used. used ≤ places) s
    (λ used c x later ok is. let q = had-place table places used p s c x later is in omega (arith, q.0)) n from c xs last h e)

-- records with items: what each keeps of the items' places, the list keeps
pub nested-fit : {A S : Type 0} (next : S → A → S) (table places : ℕ) (p : S → Parser A) (Ok : S → Type 0) (s : List ℕ) →
    ((inner : S) (c : Cursor) (x : A) (later : Cursor) → Ok inner → p inner s c ≡ got x later → Ok (next inner x)) →
    (n : ℕ) (used : Used S) (c : Cursor) (xs : List A) (last : Cursor) → used.own ≤ places → Ok used.inner → nested next table places p n used s c ≡ got xs last →
    ((foldl (behind_one next) used xs).own ≤ places) × Ok (foldl (behind_one next) used xs).inner
unfolding nested
nested-fit next table places p Ok s one n used c xs last h ok e =
    many-keeps (behind_one next) (λ used. room table places used.own >> p used.inner) (λ used. (used.own ≤ places) × Ok used.inner) s
    (λ used c x later ok is. let q = had-place table places used.own (p used.inner) s c x later is in
    (omega (arith, q.0), one used.inner c x later ok.1 q.1)) n used c xs last (h, ok) e

-- so many rows fit a table of so many words
pub rows_fit : (width count size : ℕ) → count ≤ size / width → count * width ≤ size
rows_fit width count size h = le_trans (mul-le-mul_right width h) (div-mul-le_self size width)
