-- The walk behind some constants: what is left to be skipped comes to what was to be skipped, and both come out even or neither.
-- Assumes nothing.
use Prim.Native.Nat.{ℕ, suc, ◌+◌, ◌-◌, ◌≤◌, ◌<◌}
use mathlib.Core.Path.{◌≡◌, refl, sym, ◌∙◌, ap}
use mathlib.Core.Bool.{true, false}
use mathlib.Core.List.{List, [], ◌∷◌}
use native.Mathlib.Omega.{arith}
use lib.ListN.{length}
use Rattle.model.specs.Rules.{owns, skip, exactly}
use Rattle.rules.specs.Walks.{Walk}
use Rattle.rules.proofs.Owed.{skip-none, skip-short, skip-row, exactly-none, exactly-short, exactly-row}

module _ (rows : List (List ℕ)) (n : ℕ) where
  pub record Walking (left : List (List ℕ)) (owed : ℕ) : Type 0 where
    pub enough : owed ≤ length left
    pub rest : skip rows n ≡ skip left owed
    pub even : exactly rows n ≡ exactly left owed

  pub walking-none : n ≤ length rows → Walking rows n
  walking-none enough = record { enough = enough; rest = refl; even = refl }

  -- more is owed than rows are left
  short : (rest : List (List ℕ)) (owed : ℕ) → skip rows n ≡ skip rest owed → exactly rows n ≡ exactly rest owed → length rest < owed → Walk rows n [] false
  short rest owed s e few = record { rest = sym (s ∙ skip-short rest owed few); even = sym (e ∙ exactly-short rest owed few) }

  pub walk-short : length rows < n → Walk rows n [] false
  walk-short few = short rows n refl refl few

  module _ {rest : List (List ℕ)} {owed : ℕ} (w : Walking rest owed) where
    pub walking-paid : owed ≡ 0 → Walk rows n rest true
    walking-paid paid =
        record { rest = sym (w.rest ∙ ap (skip rest) paid ∙ skip-none rest); even = sym (w.even ∙ ap (exactly rest) paid ∙ exactly-none rest) }

    pub walking-end : length rest ≡ 0 → Walk rows n rest true
    walking-end none = walking-paid (omega (arith, none, w.enough))

    -- a row pays for itself and owes its items
    module _ {row : List ℕ} {behind : List (List ℕ)} (is : rest ≡ row ∷ behind) (some : owed ≡ 0 → ⊥) {more : ℕ} (owes : more ≡ owns row) where
      one : length rest ≡ suc (length behind)
      one = ap (λ (rows : List (List ℕ)). length rows) is

      skips : skip rows n ≡ skip behind (owed - 1 + more)
      skips = w.rest ∙ rw (is, owes) (skip-row row behind owed (omega (arith, some)))

      evens : exactly rows n ≡ exactly behind (owed - 1 + more)
      evens = w.even ∙ rw (is, owes) (exactly-row row behind owed (omega (arith, some)))

      pub walking-row : more ≤ length rest - owed → Walking behind (owed - 1 + more)
      walking-row fits = record { enough = omega (arith, fits, one, some, w.enough); rest = skips; even = evens }

      -- it owes more than is left
      pub walking-greedy : length rest - owed < more → Walk rows n [] false
      walking-greedy much = short behind (owed - 1 + more) skips evens (omega (arith, much, one, some, w.enough))
