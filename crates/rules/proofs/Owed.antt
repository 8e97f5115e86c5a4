-- What is owed of a list of rows: nothing, more than there are, and what a row owes. Assumes nothing.
use Prim.Native.Nat.{ℕ, zero, suc, ◌+◌, ◌-◌, ◌<◌}
use mathlib.Core.Path.{◌≡◌, refl, sym, ap}
use mathlib.Core.Bool.{false}
use mathlib.Core.List.{List, [], ◌∷◌}
use native.Mathlib.Omega.{arith}
use lib.ListN.{length}
use lib.Dec.{eqb, eqb-suc-zero}
use borrow.Author.Tests.{ne_eqb}
use Rattle.model.specs.Rules.{owns, skip, exactly}

pub skip-none : (rows : List (List ℕ)) → skip rows 0 ≡ rows
unfolding skip
skip-none [] = refl
skip-none (row ∷ rows) = refl

pub skip-short : (rows : List (List ℕ)) (owed : ℕ) → length rows < owed → skip rows owed ≡ []
unfolding skip
skip-short [] owed h = refl
skip-short (row ∷ rows) zero h = absurd (omega arith)
skip-short (row ∷ rows) (suc owed) h = skip-short rows (owns row + owed) (omega arith)

pub exactly-none : (rows : List (List ℕ)) → exactly rows 0 ≡ eqb (length rows) 0
unfolding exactly
exactly-none [] = refl
exactly-none (row ∷ rows) = sym (eqb-suc-zero (length rows))

pub exactly-short : (rows : List (List ℕ)) (owed : ℕ) → length rows < owed → exactly rows owed ≡ false
unfolding exactly
exactly-short [] owed h = ne_eqb owed 0 (λ e. omega arith)
exactly-short (row ∷ rows) zero h = absurd (omega arith)
exactly-short (row ∷ rows) (suc owed) h = exactly-short rows (owns row + owed) (omega arith)

-- a row pays for itself and owes its items
pub skip-row : (row : List ℕ) (rows : List (List ℕ)) (owed : ℕ) → 0 < owed → skip (row ∷ rows) owed ≡ skip rows (owed - 1 + owns row)
unfolding skip
skip-row row rows zero h = absurd (omega arith)
skip-row row rows (suc owed) h = ap (skip rows) (omega arith)

pub exactly-row : (row : List ℕ) (rows : List (List ℕ)) (owed : ℕ) → 0 < owed → exactly (row ∷ rows) owed ≡ exactly rows (owed - 1 + owns row)
unfolding exactly
exactly-row row rows zero h = absurd (omega arith)
exactly-row row rows (suc owed) h = ap (exactly rows) (omega arith)
