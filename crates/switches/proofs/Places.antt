-- A place that is read takes nothing.
use Rattle.std.proofs.Common.{◌≡◌, ℕ, List, refl}
use Rattle.grammar.specs.declared.Cursor.{Cursor}
use Rattle.grammar.specs.Outcome.{Parser, ◌>>=◌}
use Rattle.grammar.specs.Combinators.{place}

pub place_is : {A : Type 0} (f : ℕ → Parser A) (s : List ℕ) (c : Cursor) → (place >>= f) s c ≡ f c.at s c
unfolding place ◌>>=◌
place_is f s c = refl
