-- A test of each entry of a map, one by one: what is left to be judged comes to what was to be judged. Assumes nothing.
use Prim.Native.Nat.{ℕ, zero, suc, ◌+◌, ◌-◌, ◌≤◌, ◌<◌}
use mathlib.Core.Path.{◌≡◌, refl, sym, ◌∙◌}
use mathlib.Core.Bool.{Bool, true, false, ◌&&◌}
use mathlib.Core.List.{List, [], ◌∷◌}
use native.Mathlib.Omega.{arith}
use lib.ListN.{length}
use Rattle.model.specs.Lent.{every}
use Rattle.model.specs.Rules.{owns, skip, entries}

entries_none : (rows : List (List ℕ)) → entries 0 rows ≡ []
unfolding entries
entries_none rows = refl

entries-nowhere : (n : ℕ) → entries n [] ≡ []
unfolding entries
entries-nowhere zero = refl
entries-nowhere (suc n) = refl

entries-row : (n : ℕ) (row : List ℕ) (rows : List (List ℕ)) → 0 < n → entries n (row ∷ rows) ≡ row ∷ entries (n - 1) (skip rows (owns row))
unfolding entries
entries-row zero row rows h = absurd (omega arith)
entries-row (suc n) row rows h = let one : suc n - 1 ≡ n = omega arith in rw one

module _ (test : List ℕ → Bool) (rows : List (List ℕ)) (n : ℕ) where
  -- k entries are judged, and keep the test
  pub record Entering (k : ℕ) (rest : List (List ℕ)) : Type 0 where
    pub same : every test (entries n rows) ≡ every test (entries (n - k) rest)

  pub entering-none : Entering 0 rows
  entering-none = let all : n - 0 ≡ n = omega arith in record { same = rw all }

  module _ {k : ℕ} {rest : List (List ℕ)} (e : Entering k rest) where
    pub entering-paid : n ≤ k → true ≡ every test (entries n rows)
    entering-paid paid = let none : n - k ≡ 0 = omega arith in sym (e.same ∙ rw (none, entries_none rest))

    pub entering-end : length rest ≡ 0 → true ≡ every test (entries n rows)
    entering-end none = sym (e.same ∙ rw (length-none rest none, entries-nowhere (n - k)))
      where
        length-none : (xs : List (List ℕ)) → length xs ≡ 0 → xs ≡ []
        length-none [] h = refl
        length-none (x ∷ xs) h = absurd (omega (arith, h))

    module _ (more : k < n) {row : List ℕ} {behind : List (List ℕ)} (is : rest ≡ row ∷ behind) where
      this-row : every test (entries n rows) ≡ test row && every test (entries (n - (k + 1)) (skip behind (owns row)))
      this-row = let one : n - k - 1 ≡ n - (k + 1) = omega arith in e.same ∙ rw (is, entries-row (n - k) row behind (omega arith), one)

      pub entering-fails : false ≡ test row → false ≡ every test (entries n rows)
      entering-fails fails = sym (rw (this-row, sym fails))

      pub entering-next : true ≡ test row → {next : List (List ℕ)} {items : ℕ} → items ≡ owns row → next ≡ skip behind items → Entering (k + 1) next
      entering-next holds owed past = record { same = rw (this-row, sym holds, past, owed) }
