-- The prefix law of each combinator. With `whole-rules`, `search` proves it of a do-block.
use Rattle.std.proofs.Common.{if◌then◌else◌}
use Prim.Native.Nat.{ℕ, zero, suc, ◌+◌, ◌≤◌}
use mathlib.Core.Path.{◌≡◌, refl, ap}
use mathlib.Core.Logic.{inl, inr}
use mathlib.Core.Bool.{Bool, true, false}
use mathlib.Core.List.{List, ◌++◌}
use native.Mathlib.Nat.{le_refl}
use native.Mathlib.Omega.{arith}
use lib.ListN.{length, drop, length-append, length-drop, get_or-append}
use lib.Seq.{drop-append-le, take-append-le}
use lib.Dec.{ltb, eqb}
use borrow.Author.Tests.{leb-true, le-leb}
use Rattle.refusal.specs.declared.Refusal.{Refusal}
use Rattle.refusal.specs.declared.Place.{Place}
use Rattle.grammar.specs.declared.Cursor.{Cursor}
use Rattle.grammar.specs.Outcome.{advanced, Outcome, got, refused, Parser, after, pure, refuse, ◌>>=◌}
use Rattle.grammar.specs.Combinators.{enough, taking, byte, low_first, fixed, text_at, text, place, check, left, room, ◌⇒◌∣◌, unknown, many}
use Rattle.grammar.specs.Number.{groups, number, signed}
use Rattle.grammar.specs.Prefix.{Within, Front, Whole}
use Rattle.grammar.proofs.Outcome.{got-ne-refused}

pub whole-pure : {A : Type 0} (v : A) → Whole (pure v)
unfolding pure
whole-pure v = record { inside = λ s c h. (le_refl _, h); front = λ s t c h. inr refl }

pub whole-refuse : {A : Type 0} (r : Refusal) → Whole (refuse {A = A} r)
unfolding refuse
whole-refuse r = record { inside = λ s c h. tt; front = λ s t c h. inr refl }

pub whole-place : Whole place
unfolding place
whole-place = record { inside = λ s c h. (le_refl _, h); front = λ s t c h. inr refl }

-- what is taken speaks of those bytes alone
abbrev pub Local : {A : Type 0} → ℕ → (List ℕ → ℕ → A) → Type 0
Local n what = (s t : List ℕ) (at : ℕ) → at + n ≤ length s → what (s ++ t) at ≡ what s at

module _ {A : Type 0} (n : ℕ) (what : List ℕ → ℕ → A) where
  took : Bool → List ℕ → Cursor → Outcome A
  took b s c = if b then got (what s c.at) (advanced c n) else refused Refusal.Truncated

  took-within : (s : List ℕ) (c : Cursor) (b : Bool) → enough n s c ≡ b → Within c (length s) (took b s c)
  unfolding took
  took-within s c true e = (omega arith, leb-true _ _ e)
  took-within s c false e = tt

  took-front : Local n what → (s t : List ℕ) (c : Cursor) (b : Bool) → enough n s c ≡ b →
      Front (took b s c) (took (enough n (s ++ t) c) (s ++ t) c)
  unfolding took
  took-front local s t c true e =
      let h : c.at + n ≤ length s = leb-true _ _ e in
      let k : c.at + n ≤ length (s ++ t) = omega (arith, length-append s t) in
      inr (rw (le-leb _ _ k, local s t c.at h))
  took-front local s t c false e = inl refl

  pub whole-taking : Local n what → Whole (taking n what)
  unfolding taking took
  whole-taking local =
      record { inside = λ s c h. took-within s c _ refl; front = λ s t c h. took-front local s t c _ refl }

pub whole-byte : Whole byte
unfolding byte
whole-byte = whole-taking 1 _ (λ s t at h. get_or-append s t 0 at (omega arith))

pub whole-fixed : (n : ℕ) → Whole (fixed n)
unfolding fixed
whole-fixed n = whole-taking n (low_first n) (same n)
  where
    same : (n : ℕ) → Local n (low_first n)
    same zero s t at h = refl
    same (suc n) s t at h = rw (get_or-append s t 0 at (omega arith), same n s t (at + 1) (omega arith))

pub whole-text : (n : ℕ) → Whole (text n)
unfolding text
whole-text n = whole-taking n _ same
  where
    same : Local n (λ s at. text_at s (record { start = at; size = n }))
    same s t at h = rw (drop-append-le at s t (omega arith), take-append-le n (drop at s) t (simp length-drop (omega arith)))

pub whole-check : (b : Bool) (r : Refusal) → Whole (check b r)
unfolding check
whole-check true r = whole-pure tt
whole-check false r = whole-refuse r

pub whole-left : (n : ℕ) → Whole (left n)
unfolding left check pure refuse
whole-left n = record { inside = λ s c h. within s c h (enough n s c); front = λ s t c h. front s t c _ refl }
  where
    within : (s : List ℕ) (c : Cursor) → c.at ≤ length s → (b : Bool) → Within c (length s) (check b Refusal.Truncated s c)
    within s c h true = (le_refl _, h)
    within s c h false = tt

    front : (s t : List ℕ) (c : Cursor) (b : Bool) → enough n s c ≡ b →
        Front (check b Refusal.Truncated s c) (check (enough n (s ++ t) c) Refusal.Truncated (s ++ t) c)
    front s t c true e =
        let h : c.at + n ≤ length s = leb-true _ _ e in
        let k : c.at + n ≤ length (s ++ t) = omega (arith, length-append s t) in
        inr (rw (le-leb _ _ k))
    front s t c false e = inl refl

pub whole_room : (table cap used : ℕ) → Whole (room table cap used)
unfolding room
whole_room table cap used = whole-check _ _

pub whole-bind : {A B : Type 0} {p : Parser A} {f : A → Parser B} → Whole p → ((v : A) → Whole (f v)) → Whole (p >>= f)
unfolding ◌>>=◌
whole-bind {A} {B} {p} {f} wp wf =
    record { inside = λ s c h. within s c (p s c) (wp.inside s c h); front = λ s t c h. front s t c (p s c) (p (s ++ t) c) (wp.inside s c h) (wp.front s t c h) }
  where
    within : (s : List ℕ) (c : Cursor) (o : Outcome A) → Within c (length s) o → Within c (length s) (after o (λ v next. f v s next))
    within s c (got v next) h = later (f v s next) ((wf v).inside s next h.1)
      where
        later : (o : Outcome B) → Within next (length s) o → Within c (length s) o
        later (got x last) k = (omega arith, k.1)
        later (refused r) k = tt
    within s c (refused r) h = tt

    front : (s t : List ℕ) (c : Cursor) (o whole : Outcome A) → Within c (length s) o → Front o whole →
        Front (after o (λ v next. f v s next)) (after whole (λ v next. f v (s ++ t) next))
    front s t c (got v next) whole h (inl e) = absurd (got-ne-refused e)
    front s t c (got v next) whole h (inr e) = rw e ((wf v).front s t next h.1)
    front s t c (refused r) whole h (inl e) = let q : r ≡ Refusal.Truncated = cc in inl (ap refused q)
    front s t c (refused r) whole h (inr e) = inr (rw e)

pub whole-if : {A : Type 0} {p q : Parser A} (b : Bool) → Whole p → Whole q → Whole (if b then p else q)
whole-if true wp wq = wp
whole-if false wp wq = wq

pub whole-tag : {A : Type 0} {p : Parser A} (others : ℕ → Parser A) (k tag : ℕ) → Whole p → Whole (others tag) → Whole ((k ⇒ p ∣ others) tag)
unfolding ◌⇒◌∣◌
whole-tag others k tag wp wq = whole-if (eqb tag k) wp wq

pub whole-unknown : {A : Type 0} (kind : Place) (tag : ℕ) → Whole (unknown {A = A} kind tag)
unfolding unknown
whole-unknown kind tag = whole-refuse _

pub whole-many : {A S : Type 0} (next : S → A → S) {p : S → Parser A} → ((used : S) → Whole (p used)) → (n : ℕ) (used : S) → Whole (many next p n used)
unfolding many
whole-many next wp zero used = whole-pure _
whole-many next wp (suc n) used = whole-bind (wp used) (λ x. whole-bind (whole-many next wp n _) (λ xs. whole-pure _))

pub whole-groups : (n : ℕ) → Whole (groups n)
unfolding groups
whole-groups zero = whole-refuse _
whole-groups (suc n) = whole-bind whole-byte (λ b. whole-if (ltb b 128) (whole-pure b) (whole-bind (whole-groups n) (λ more. whole-pure _)))

pub whole-number : (bits : ℕ) → Whole (number bits)
unfolding number
whole-number bits = whole-bind (whole-groups 10) (λ v. whole-bind (whole-check _ _) (λ _. whole-pure v))

pub whole-signed : Whole signed
unfolding signed
whole-signed = whole-bind (whole-number 64) (λ u. whole-pure _)

pub ruleset whole-rules = (
  whole-pure,
  whole-refuse,
  whole-place,
  whole-byte,
  whole-fixed,
  whole-text,
  whole-check,
  whole-left,
  whole_room,
  whole-bind,
  whole-if,
  whole-tag,
  whole-unknown,
  whole-many,
  whole-number,
  whole-signed,
)
