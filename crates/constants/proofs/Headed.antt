-- A head is what the code keeps of a front: it is read as the front is, one read after another.
use Prim.Native.Nat.{ℕ}
use mathlib.Core.Path.{◌≡◌, refl}
use mathlib.Core.List.{List}
use Rattle.refusal.specs.declared.Refusal.{Refusal}
use Rattle.refusal.specs.declared.Place.{Place}
use Rattle.grammar.specs.declared.Cursor.{Cursor}
use Rattle.grammar.specs.Outcome.{Outcome, got, refused, Parser, after, pure, refuse, ◌>>=◌}
use Rattle.grammar.specs.Combinators.{unknown}
use Rattle.constants.specs.declared.heads.Head.{Head}
use Rattle.constants.specs.Parts.{Front, head_is, headed}

unfoldable pub kept : Outcome Front → Outcome Head
kept (got f next) = got (head_is f) next
kept (refused r) = refused r

pub headed_is : (p : Parser Front) (s : List ℕ) (c : Cursor) → headed p s c ≡ kept (p s c)
unfolding headed ◌>>=◌ pure kept
headed_is p s c = go (p s c)
  where
    go : (o : Outcome Front) → after o (λ f next. got (head_is f) next) ≡ kept o
    go (got f next) = refl
    go (refused r) = refl

pub kept_got : (o : Outcome Front) {f : Front} {next : Cursor} → o ≡ got f next → kept o ≡ got (head_is f) next
unfolding kept
kept_got o is = rw is

pub kept_refused : (o : Outcome Front) {r : Refusal} → o ≡ refused r → kept o ≡ refused r
unfolding kept
kept_refused o is = rw is

pub ruleset heads = (headed_is, kept_got, kept_refused)

-- a front that its tag alone decides
pub head_pure : (f : Front) (s : List ℕ) (c : Cursor) → headed (pure f) s c ≡ got (head_is f) c
unfolding headed pure ◌>>=◌
head_pure f s c = refl

pub head_unknown : (kind : Place) (tag : ℕ) (s : List ℕ) (c : Cursor) → headed (unknown kind tag) s c ≡ refused (Refusal.UnknownTag kind tag)
unfolding headed unknown refuse ◌>>=◌
head_unknown kind tag s c = refl

pub ruleset by_tag = (head_pure, head_unknown)
