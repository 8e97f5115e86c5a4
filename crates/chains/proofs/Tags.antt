-- A choice by tag: the body of the tag, or the other tags.
use Rattle.std.proofs.Common.{◌≡◌, ℕ, List, refl}
use borrow.Author.Tests.{eq-eqb, ne_eqb}
use Rattle.refusal.specs.declared.Refusal.{Refusal}
use Rattle.refusal.specs.declared.Place.{Place}
use Rattle.grammar.specs.declared.Cursor.{Cursor}
use Rattle.grammar.specs.Outcome.{Parser, refused, refuse}
use Rattle.grammar.specs.Combinators.{◌⇒◌∣◌, unknown}

pub tag_is : {A : Type 0} (k : ℕ) (p : Parser A) (others : ℕ → Parser A) (tag : ℕ) (s : List ℕ) (c : Cursor) → tag ≡ k →
    (k ⇒ p ∣ others) tag s c ≡ p s c
unfolding ◌⇒◌∣◌
tag_is k p others tag s c e = rw (eq-eqb tag k e)

pub tag_is_other : {A : Type 0} (k : ℕ) (p : Parser A) (others : ℕ → Parser A) (tag : ℕ) (s : List ℕ) (c : Cursor) → (tag ≡ k → ⊥) →
    (k ⇒ p ∣ others) tag s c ≡ others tag s c
unfolding ◌⇒◌∣◌
tag_is_other k p others tag s c e = rw (ne_eqb tag k e)

pub tag_is_unknown : {A : Type 0} (place : Place) (tag : ℕ) (s : List ℕ) (c : Cursor) → unknown {A = A} place tag s c ≡ refused (Refusal.UnknownTag place tag)
unfolding unknown refuse
tag_is_unknown place tag s c = refl

pub ruleset tags = (tag_is, tag_is_other, tag_is_unknown)
