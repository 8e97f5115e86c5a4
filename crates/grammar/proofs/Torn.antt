-- For any parser with the prefix law: a shorter front of an accepted file is Truncated, and n more bytes behind it are TrailingBytes n.
use Rattle.std.proofs.Common.{if◌then◌else◌}
use Prim.Native.Nat.{ℕ, ◌-◌, ◌<◌, zero-le}
use mathlib.Core.Path.{◌≡◌, refl, sym}
use mathlib.Core.Logic.{inl, inr}
use mathlib.Core.Bool.{Bool, true, false}
use mathlib.Core.List.{List, ◌++◌}
use native.Mathlib.Omega.{arith}
use lib.ListN.{length, take, drop, length-append, length-drop, take-append-drop}
use lib.Dec.{eqb}
use borrow.Author.Tests.{eqb-true, ne_eqb}
use Rattle.refusal.specs.declared.Refusal.{Refusal}
use Rattle.grammar.specs.declared.Cursor.{Cursor}
use Rattle.grammar.specs.Outcome.{start, Outcome, got, refused, Parser, after}
use Rattle.grammar.specs.Combinators.{ended, file}
use Rattle.grammar.specs.Prefix.{Within, Front, Whole}
use Rattle.grammar.proofs.Outcome.{got-ne-refused}

-- an accepted file ends where its last record ends
pub ended_at_lem : {A : Type 0} (s : List ℕ) (v w : A) (next last : Cursor) → ended s v next ≡ got w last → next.at ≡ length s
ended_at_lem s v w next last e = go (eqb next.at (length s)) refl e
  where
    go : (b : Bool) → eqb next.at (length s) ≡ b →
        (if b then got v next else refused (Refusal.TrailingBytes (length s - next.at))) ≡ got w last → next.at ≡ length s
    go true t e = eqb-true _ _ t
    go false t e = absurd (got-ne-refused (sym e))

module _ {A : Type 0} {p : Parser A} (whole : Whole p) (s t : List ℕ) (more : 0 < length t) (v : A) (last : Cursor) where
  longer : length s < length (s ++ t)
  longer = omega (arith, length-append s t)

  front_of_lem : file p (s ++ t) ≡ got v last → file p s ≡ refused Refusal.Truncated
  unfolding file
  front_of_lem e = go (p s start) (p (s ++ t) start) (whole.inside s start zero-le) (whole.front s t start zero-le) e
    where
      go : (o all : Outcome A) → Within start (length s) o → Front o all → after all (ended (s ++ t)) ≡ got v last →
          after o (ended s) ≡ refused Refusal.Truncated
      go o all h (inl f) e = rw f
      go (got w next) all h (inr f) e =
          let k : next.at ≡ length (s ++ t) = ended_at_lem (s ++ t) w v next last (rw f at e) in
          absurd (omega (arith, longer))
      go (refused r) all h (inr f) e = absurd (got-ne-refused (sym (rw f at e)))

  more-behind : file p s ≡ got v last → file p (s ++ t) ≡ refused (Refusal.TrailingBytes (length t))
  unfolding file
  more-behind e = go (p s start) (p (s ++ t) start) (whole.front s t start zero-le) e
    where
      go : (o all : Outcome A) → Front o all → after o (ended s) ≡ got v last →
          after all (ended (s ++ t)) ≡ refused (Refusal.TrailingBytes (length t))
      go o all (inl f) e = absurd (got-ne-refused (sym (rw f at e)))
      go (got w next) all (inr f) e =
          let k : next.at ≡ length s = ended_at_lem s w v next last e in
          let d : next.at ≡ length (s ++ t) → ⊥ = λ q. omega (arith, longer) in
          let n : length (s ++ t) - next.at ≡ length t = omega (arith, length-append s t) in
          rw (f, ne_eqb _ _ d, n)
      go (refused r) all (inr f) e = absurd (got-ne-refused (sym e))

-- every shorter front of an accepted file, the empty one too, is Truncated
pub front-is-truncated : {A : Type 0} {p : Parser A} → Whole p → (s : List ℕ) (v : A) (last : Cursor) → file p s ≡ got v last →
    (k : ℕ) → k < length s → file p (take k s) ≡ refused Refusal.Truncated
front-is-truncated whole s v last e k h =
    front_of_lem whole (take k s) (drop k s) (simp length-drop (omega arith)) v last (rw take-append-drop e)

-- the same bytes with n more behind, n at least 1, are TrailingBytes n
pub more-is-trailing : {A : Type 0} {p : Parser A} → Whole p → (s : List ℕ) (v : A) (last : Cursor) → file p s ≡ got v last →
    (t : List ℕ) → 0 < length t → file p (s ++ t) ≡ refused (Refusal.TrailingBytes (length t))
more-is-trailing whole s v last e t more = more-behind whole s t more v last e
