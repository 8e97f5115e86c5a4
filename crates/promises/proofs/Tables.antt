-- What is read depends on the tables' lengths alone.
use Prim.Native.Nat.{ℕ, zero, suc}
use mathlib.Core.Path.{◌≡◌, refl, sym, ◌∙◌, ap}
use mathlib.Core.List.{List, [], ◌∷◌, map}
use lib.ListN.{length, get_or}
use Rattle.reading.specs.Answer.{places_of}

length_at : (tables : List (List ℕ)) (i : ℕ) → length (get_or tables i []) ≡ get_or (map length tables) i 0
length_at [] i = refl
length_at (t ∷ tables) zero = refl
length_at (t ∷ tables) (suc i) = length_at tables i

pub same-places : (a b : List (List ℕ)) → map length a ≡ map length b → places_of a ≡ places_of b
same-places a b e =
    rw (at 0, at 1, at 2, at 3, at 4, at 5, at 6, at 7, at 8, at 9, at 10, at 11, at 12)
  where
    at : (i : ℕ) → length (get_or a i []) ≡ length (get_or b i [])
    at i = length_at a i ∙ ap (λ (l : List ℕ). get_or l i 0) e ∙ sym (length_at b i)
