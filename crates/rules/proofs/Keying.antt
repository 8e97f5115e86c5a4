-- A test of the entries of all maps, row by row: what is left to be judged comes to what was to be judged. Assumes nothing.
use Prim.Native.Nat.{ℕ}
use mathlib.Core.Path.{◌≡◌, refl, sym, ◌∙◌}
use mathlib.Core.Bool.{Bool, true, false, ◌&&◌}
use mathlib.Core.List.{List, [], ◌∷◌, ◌++◌}
use native.Mathlib.Omega.{arith}
use lib.ListN.{length}
use borrow.Author.Tests.{ne_eqb}
use Rattle.rows.specs.Back.{word}
use Rattle.model.specs.Lent.{every}
use Rattle.model.specs.Rules.{entries, keyed}

module _ (test : List ℕ → Bool) where
  every_append : (xs ys : List (List ℕ)) → every test (xs ++ ys) ≡ every test xs && every test ys
  every_append [] ys = refl
  every_append (x ∷ xs) ys = go (test x) (every test (xs ++ ys)) (every test xs) (every test ys) (every_append xs ys)
    where
      go : (b all front back : Bool) → all ≡ front && back → b && all ≡ (b && front) && back
      go true all front back e = e
      go false all front back e = refl

  module _ (rows : List (List ℕ)) where
    pub record Keying (rest : List (List ℕ)) : Type 0 where
      pub same : every test (keyed rows) ≡ every test (keyed rest)

    pub keying-end : {rest : List (List ℕ)} → Keying rest → length rest ≡ 0 → true ≡ every test (keyed rows)
    unfolding keyed
    keying-end {rest} s none = go rest none s.same
      where
        go : (rest : List (List ℕ)) → length rest ≡ 0 → every test (keyed rows) ≡ every test (keyed rest) → true ≡ every test (keyed rows)
        go [] none same = sym same
        go (row ∷ rest) none same = absurd (omega (arith, none))

    module _ {rest : List (List ℕ)} (s : Keying rest) {row : List ℕ} {behind : List (List ℕ)} (is : rest ≡ row ∷ behind) where
      map-row : word row 0 ≡ 0x08 → every test (keyed rows) ≡ every test (entries (word row 5) behind) && every test (keyed behind)
      unfolding keyed
      map-row map = s.same ∙ rw (is, map) (every_append (entries (word row 5) behind) (keyed behind))

      pub keying-fails : word row 0 ≡ 0x08 → false ≡ every test (entries (word row 5) behind) → false ≡ every test (keyed rows)
      keying-fails map e = sym (map-row map ∙ rw (sym e))

      pub keying-map : word row 0 ≡ 0x08 → true ≡ every test (entries (word row 5) behind) → Keying behind
      keying-map map e = record { same = map-row map ∙ rw (sym e) }

      pub keying-other : (word row 0 ≡ 0x08 → ⊥) → Keying behind
      unfolding keyed
      keying-other other = record { same = s.same ∙ rw (is, ne_eqb (word row 0) 0x08 other) }
