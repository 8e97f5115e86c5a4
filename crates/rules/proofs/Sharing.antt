-- Shares are taken off one by one: what is left to be used comes to what was to be used. Assumes nothing.
use Prim.Native.Nat.{ℕ, zero, suc, ◌+◌, ◌-◌, ◌≤◌, ◌<◌}
use mathlib.Core.Path.{◌≡◌, refl, sym, ◌∙◌, ap}
use mathlib.Core.Bool.{Bool, true, false}
use mathlib.Core.List.{List, ◌∷◌}
use native.Mathlib.Omega.{arith}
use lib.ListN.{length, get_or, drop}
use lib.Dec.{eqb, eqb-zero-suc, eqb-suc-zero}
use borrow.Author.Tests.{eqb-true, eqb-false, eq-eqb, ne_eqb}
use Rattle.std.proofs.lemmas.List.{drop_more, drop_all}
use Rattle.rows.specs.Back.{word}
use Rattle.model.specs.Rules.{total}

eqb-less : (share rest left : ℕ) → share ≤ left → eqb (share + rest) left ≡ eqb rest (left - share)
eqb-less share rest left h = go (eqb rest (left - share)) refl
  where
    go : (b : Bool) → eqb rest (left - share) ≡ b → eqb (share + rest) left ≡ b
    go true e = let same : rest ≡ left - share = eqb-true _ _ e in eq-eqb (share + rest) left (omega arith)
    go false e = ne_eqb (share + rest) left (λ same. eqb-false rest (left - share) e (omega arith))

turned : (n : ℕ) → eqb 0 n ≡ eqb n 0
turned zero = refl
turned (suc n) = eqb-zero-suc n ∙ sym (eqb-suc-zero n)

module _ (rows : List (List ℕ)) (i n : ℕ) where
  pub record Sharing (k left : ℕ) : Type 0 where
    pub same : eqb (total i rows) n ≡ eqb (total i (drop k rows)) left

  module _ {k left : ℕ} (s : Sharing k left) (row : List ℕ) (is : row ≡ get_or rows k row) (here : k < length rows) where
    this-row : eqb (total i rows) n ≡ eqb (word row i + total i (drop (k + 1) rows)) left
    unfolding total
    this-row =
        let next : drop k rows ≡ row ∷ drop (k + 1) rows = drop_more rows k row here ∙ ap (λ (x : List ℕ). x ∷ drop (k + 1) rows) (sym is) in
        s.same ∙ rw next

    pub sharing-greedy : left < word row i → false ≡ eqb (total i rows) n
    sharing-greedy h = sym (this-row ∙ ne_eqb (word row i + total i (drop (k + 1) rows)) left (λ e. omega arith))

    pub sharing-next : word row i ≤ left → Sharing (k + 1) (left - word row i)
    sharing-next h = record { same = this-row ∙ eqb-less (word row i) (total i (drop (k + 1) rows)) left h }

  pub sharing-end : {k left : ℕ} → Sharing k left → length rows ≤ k → eqb left 0 ≡ eqb (total i rows) n
  unfolding total
  sharing-end {k} {left} s past = sym (s.same ∙ rw (drop_all k rows past) (turned left))
