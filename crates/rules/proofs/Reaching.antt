-- Constants of at most so many levels, one by one: what is left to be reached comes to what was to be reached. Assumes nothing.
use Prim.Native.Nat.{ℕ, zero, suc, ◌+◌, ◌-◌, ◌≤◌, ◌<◌}
use mathlib.Core.Path.{◌≡◌, refl, sym, ◌∙◌, ap}
use mathlib.Core.List.{List, [], ◌∷◌}
use native.Mathlib.Omega.{arith}
use lib.ListN.{length}
use Rattle.model.specs.Rules.{owns, Behind, behind, too_deep, and_then, within}

within_none : (levels : ℕ) (rows : List (List ℕ)) → within levels 0 rows ≡ behind rows
unfolding within
within_none zero rows = refl
within_none (suc levels) rows = refl

within-deep : (n : ℕ) (rows : List (List ℕ)) → (n ≡ 0 → ⊥) → within 0 n rows ≡ too_deep
unfolding within
within-deep zero rows some = absurd (some refl)
within-deep (suc n) rows some = refl

within-nowhere : (levels n : ℕ) (rows : List (List ℕ)) → (levels ≡ 0 → ⊥) → length rows ≡ 0 → within levels n rows ≡ behind rows
unfolding within
within-nowhere zero n rows some none = absurd (some refl)
within-nowhere (suc levels) n (row ∷ rows) some none = absurd (omega (arith, none))
within-nowhere (suc levels) zero [] some none = refl
within-nowhere (suc levels) (suc n) [] some none = refl

within-row : (levels n : ℕ) (row : List ℕ) (rows : List (List ℕ)) → (levels ≡ 0 → ⊥) → 0 < n →
    within levels n (row ∷ rows) ≡ and_then (within (levels - 1) (owns row) rows) (within levels (n - 1))
unfolding within
within-row zero n row rows deep some = absurd (deep refl)
within-row (suc levels) zero row rows deep some = absurd (omega arith)
within-row (suc levels) (suc n) row rows deep some =
    let level : suc levels - 1 ≡ levels = omega arith in
    let one : suc n - 1 ≡ n = omega arith in
    rw (level, one)

module _ (rows : List (List ℕ)) (levels n : ℕ) where
  -- no constant is wanted
  pub reach-none : n ≡ 0 → behind rows ≡ within levels n rows
  reach-none none = sym (rw none (within_none levels rows))

  -- no level is left
  pub reach-deep : (n ≡ 0 → ⊥) → levels ≡ 0 → too_deep ≡ within levels n rows
  reach-deep some none = sym (rw none (within-deep n rows some))

  -- k constants are reached
  pub record Reaching (k : ℕ) (rest : List (List ℕ)) : Type 0 where
    pub same : within levels n rows ≡ within levels (n - k) rest

  pub reaching-none : Reaching 0 rows
  reaching-none = let all : n - 0 ≡ n = omega arith in record { same = rw all }

  module _ {k : ℕ} {rest : List (List ℕ)} (r : Reaching k rest) where
    pub reaching-paid : n ≤ k → behind rest ≡ within levels n rows
    reaching-paid paid = let none : n - k ≡ 0 = omega arith in sym (r.same ∙ rw none (within_none levels rest))

    module _ (level : levels ≡ 0 → ⊥) where
      pub reaching-end : length rest ≡ 0 → behind rest ≡ within levels n rows
      reaching-end none = sym (r.same ∙ within-nowhere levels (n - k) rest level none)

      module _ (more : k < n) {row : List ℕ} {others : List (List ℕ)} (is : rest ≡ row ∷ others) {items : ℕ} (owed : items ≡ owns row) where
        this-row : within levels n rows ≡ and_then (within (levels - 1) items others) (within levels (n - (k + 1)))
        this-row =
            let one : n - k - 1 ≡ n - (k + 1) = omega arith in
            r.same ∙ rw (is, owed) (within-row levels (n - k) row others level (omega arith) ∙ rw one)

        pub reaching-deep : too_deep ≡ within (levels - 1) items others → too_deep ≡ within levels n rows
        reaching-deep e = sym (this-row ∙ ap (λ (b : Behind). and_then b (within levels (n - (k + 1)))) (sym e))

        pub reaching-next : {next : List (List ℕ)} → behind next ≡ within (levels - 1) items others → Reaching (k + 1) next
        reaching-next e = record { same = this-row ∙ ap (λ (b : Behind). and_then b (within levels (n - (k + 1)))) (sym e) }

        -- a row that owns nothing is passed alone
        pub reaching-leaf : items ≡ 0 → Reaching (k + 1) others
        reaching-leaf none = reaching-next (sym (rw none (within_none (levels - 1) others)))
