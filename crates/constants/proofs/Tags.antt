-- A choice by tag, once the tag is known or is none of those that are named.
use Prim.Native.Nat.{ℕ}
use mathlib.Core.Path.{◌≡◌, refl}
use mathlib.Core.List.{List}
use borrow.Author.Tests.{eq-eqb, ne_eqb}
use Rattle.refusal.specs.declared.Refusal.{Refusal}
use Rattle.refusal.specs.declared.Place.{Place}
use Rattle.grammar.specs.declared.Cursor.{Cursor}
use Rattle.grammar.specs.Outcome.{refused, Parser, refuse}
use Rattle.grammar.specs.Combinators.{◌⇒◌∣◌, unknown}

module _ {A : Type 0} (k : ℕ) (p : Parser A) (others : ℕ → Parser A) (tag : ℕ) where
  pub tag_is : tag ≡ k → (k ⇒ p ∣ others) tag ≡ p
  unfolding ◌⇒◌∣◌
  tag_is e = rw (eq-eqb tag k e)

  pub tag_is_not : (tag ≡ k → ⊥) → (k ⇒ p ∣ others) tag ≡ others tag
  unfolding ◌⇒◌∣◌
  tag_is_not e = rw (ne_eqb tag k e)

  -- and at a place
  module _ (s : List ℕ) (c : Cursor) where
    pub tag_here : tag ≡ k → (k ⇒ p ∣ others) tag s c ≡ p s c
    tag_here e = rw (tag_is e)

    pub tag_elsewhere : (tag ≡ k → ⊥) → (k ⇒ p ∣ others) tag s c ≡ others tag s c
    tag_elsewhere e = rw (tag_is_not e)

pub tag_unknown : {A : Type 0} (kind : Place) (tag : ℕ) (s : List ℕ) (c : Cursor) → unknown {A = A} kind tag s c ≡ refused (Refusal.UnknownTag kind tag)
unfolding unknown refuse
tag_unknown kind tag s c = refl

pub ruleset tags = (tag_is, tag_is_not)

pub ruleset tags_here = (tag_here, tag_elsewhere, tag_unknown)
