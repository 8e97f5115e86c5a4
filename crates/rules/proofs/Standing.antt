-- One law for every loop over the rows of a table: what is left to be judged comes to what was to be judged. Assumes nothing.
use Prim.Native.Nat.{ℕ, ◌+◌, ◌≤◌, ◌<◌}
use mathlib.Core.Path.{◌≡◌, sym, ◌∙◌, ap}
use mathlib.Core.Bool.{Bool, true, false, ◌&&◌}
use mathlib.Core.List.{List, ◌∷◌}
use lib.ListN.{length, get_or, drop}
use Rattle.std.proofs.lemmas.List.{drop_more, drop_all}
use Rattle.model.specs.Lent.{every}

module _ {R : Type 0} (test : R → Bool) (rows : List R) where
  -- k rows are judged, and keep the test
  pub record Standing (k : ℕ) : Type 0 where
    pub same : every test rows ≡ every test (drop k rows)

  module _ {k : ℕ} (s : Standing k) (row : R) (is : row ≡ get_or rows k row) (more : k < length rows) where
    this-row : every test rows ≡ test row && every test (drop (k + 1) rows)
    this-row = s.same ∙ ap (every test) (drop_more rows k row more ∙ ap (λ (x : R). x ∷ drop (k + 1) rows) (sym is))

    pub standing-fails : false ≡ test row → false ≡ every test rows
    standing-fails e = sym (rw (this-row, sym e))

    pub standing-next : true ≡ test row → Standing (k + 1)
    standing-next e = record { same = rw (this-row, sym e) }

  pub standing-end : {k : ℕ} → Standing k → length rows ≤ k → true ≡ every test rows
  standing-end {k} s past = sym (s.same ∙ ap (every test) (drop_all k rows past))
