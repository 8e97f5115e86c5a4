-- What tests that hold say of each of a list.
use Prim.Native.Nat.{ℕ, zero, suc}
use mathlib.Core.Bool.{Bool, true, false, not, ◌||◌}
use mathlib.Core.Path.{◌≡◌}
use mathlib.Core.List.{List, [], ◌∷◌, map}
use lib.ListN.{take, drop}
use Rattle.grammar.specs.Combinators.{Each}
use Rattle.model.specs.Lent.{every}
use Rattle.rules.proofs.Both.{false-true, both}

-- where the one holds, so does the other
pub implied : (a b : Bool) → not a || b ≡ true → a ≡ true → b ≡ true
implied true b e h = e
implied false b e h = false-true h

-- ── each of a list ──

pub holds : {X : Type 0} (test : X → Bool) (xs : List X) → every test xs ≡ true → Each (λ x. test x ≡ true) xs
holds test [] e = tt
holds test (x ∷ xs) e = let b = both (test x) (every test xs) e in (b.first, holds test xs b.second)

module _ {X : Type 0} (P Q : X → Type 0) where
  pub each_both : (xs : List X) → Each P xs → Each Q xs → Each (λ x. P x × Q x) xs
  each_both [] p q = tt
  each_both (x ∷ xs) p q = ((p.0, q.0), each_both xs p.1 q.1)

  pub each-so : ((x : X) → P x → Q x) → (xs : List X) → Each P xs → Each Q xs
  each-so so [] p = tt
  each-so so (x ∷ xs) p = (so x p.0, each-so so xs p.1)

pub each_map : {X Y : Type 0} (P : X → Type 0) (Q : Y → Type 0) (of : X → Y) → ((x : X) → P x → Q (of x)) → (xs : List X) → Each P xs → Each Q (map of xs)
each_map P Q of so [] p = tt
each_map P Q of so (x ∷ xs) p = (so x p.0, each_map P Q of so xs p.1)

module _ {X : Type 0} (P : X → Type 0) where
  pub each-any : ((x : X) → P x) → (xs : List X) → Each P xs
  each-any one [] = tt
  each-any one (x ∷ xs) = (one x, each-any one xs)

  pub each_take : (n : ℕ) (xs : List X) → Each P xs → Each P (take n xs)
  each_take zero xs p = tt
  each_take (suc n) [] p = tt
  each_take (suc n) (x ∷ xs) p = (p.0, each_take n xs p.1)

  pub each-drop : (n : ℕ) (xs : List X) → Each P xs → Each P (drop n xs)
  each-drop zero xs p = p
  each-drop (suc n) [] p = tt
  each-drop (suc n) (x ∷ xs) p = each-drop n xs p.1
