-- An accepted read leaves the rows in front of each table and zeros behind them.
use Prim.Native.Nat.{ℕ, ◌≤◌}
use mathlib.Core.Path.{◌≡◌, refl, subst}
use mathlib.Core.List.{List, [], ◌∷◌, map, foldl}
use native.Mathlib.Omega.{arith}
use lib.ListN.{length}
use Rattle.grammar.specs.declared.Cursor.{Cursor}
use Rattle.grammar.specs.Outcome.{start, got}
use Rattle.grammar.specs.Combinators.{Text}
use Rattle.tables.specs.Table.{count_items}
use Rattle.tables.proofs.Fitting.{rows_fit}
use Rattle.tables.proofs.Stores.{filled-front}
use Rattle.format.specs.Artifact as A
use Rattle.format.specs.File as definition
use Rattle.format.specs.Rows as R
use Rattle.reading.specs.Answer.{places_of, outside, filled_all}
use Rattle.reading.specs.Places.{words_of}
use Rattle.reading.proofs.Behind.{words-used}
use Rattle.promises.specs.Words.{all_in_front}
use Rattle.leaves.proofs.Leaves.{Leaves, leaves-pure, leaves-then, leaves-bind}
use Rattle.leaves.proofs.Accepted.{sections-got}
use Rattle.promises.proofs.Fits.{leaves-names, leaves-constants, leaves-tokens, leaves-assigns, leaves-chains, leaves-switches, leaves-customs, leaves-functions}

-- what was read takes no more places than there are
pub record Placed (P : A.Places) (a : A.Artifact) : Type 0 where
  pub names : length a.names.ends ≤ P.names
  pub constants : foldl (A.behind Text A.levels) 0 a.constants ≤ P.constants
  pub tokens : length a.tokens ≤ P.tokens
  pub assigns : length a.assigns ≤ P.assigns
  pub chains : (length a.chains ≤ P.chains) × (foldl count_items 0 a.chains ≤ P.steps)
  pub switches : (length a.switches ≤ P.switches) × (((foldl A.count_cases (record { cases = 0; ranges = 0 }) a.switches).cases ≤ P.cases) × ((foldl A.count_cases (record { cases = 0; ranges = 0 }) a.switches).ranges ≤ P.ranges))
  pub customs : (length a.customs ≤ P.customs) × (foldl count_items 0 a.customs ≤ P.inputs)
  pub functions : (length a.functions ≤ P.functions) × (foldl count_items 0 a.functions ≤ P.parameters)

leaves-artifact : {s : List ℕ} (P : A.Places) (mask : ℕ) → Leaves s (definition.artifact P mask) (Placed P)
unfolding definition.artifact
leaves-artifact P mask =
    leaves-bind _ _ (λ h. leaves-bind _ _ (λ source.
    leaves-then _ (leaves-names P.names) (λ ns f1.
    leaves-then _ (leaves-constants P.constants) (λ cs f2.
    leaves-then _ (leaves-tokens P.tokens) (λ ts f3.
    leaves-then _ (leaves-assigns P.assigns) (λ os f4.
    leaves-then _ (leaves-chains P.chains P.steps mask) (λ ls f5.
    leaves-then _ (leaves-switches P.switches P.cases P.ranges (length cs)) (λ ws f7.
    leaves-then _ (leaves-customs P.customs P.inputs) (λ us f10.
    leaves-bind _ _ (λ main.
    leaves-then _ (leaves-functions P.functions P.parameters) (λ fs f12.
    leaves-bind _ _ (λ code. leaves-bind _ _ (λ ps.
    leaves-pure _ (record { names = f1; constants = f2; tokens = f3; assigns = f4; chains = f5; switches = f7; customs = f10; functions = f12 }))))))))))))))

-- every table has so many words
abbrev AllFit : List (List ℕ) → List ℕ → Type 0
AllFit [] sizes = Unit
AllFit (t ∷ tables) [] = Unit
AllFit (t ∷ tables) (n ∷ sizes) = (n ≤ length t) × AllFit tables sizes

fitting-in-front : (tables words : List (List ℕ)) → AllFit tables (map length words) → filled_all tables words ≡ all_in_front tables words
fitting-in-front [] words fit = refl
fitting-in-front (t ∷ tables) [] fit = refl
fitting-in-front (t ∷ tables) (ws ∷ words) fit = rw (filled-front (length t) ws fit.0, fitting-in-front tables words fit.1)

module _ (t1 t2 t3 t4 t5 t6 t7 t8 t9 t10 t11 t12 t13 : List ℕ) where
  abbrev tables : List (List ℕ)
  tables = t1 ∷ t2 ∷ t3 ∷ t4 ∷ t5 ∷ t6 ∷ t7 ∷ t8 ∷ t9 ∷ t10 ∷ t11 ∷ t12 ∷ t13 ∷ []

  -- the words of the places used, and so those of the rows
  used-fit : (a : A.Artifact) → Placed (places_of tables) a → AllFit tables (words_of (outside a).used)
  used-fit a p = (
    omega (arith, p.names),
    (
      rows_fit 8 _ (length t2) p.constants,
      (
        rows_fit 2 _ (length t3) p.tokens,
        (
          rows_fit 6 _ (length t4) p.assigns,
          (
            rows_fit 9 _ (length t5) p.chains.0,
            (
              rows_fit 11 _ (length t6) p.chains.1,
              (
                rows_fit 3 _ (length t7) p.switches.0,
                (
                  rows_fit 2 _ (length t8) p.switches.1.0,
                  (
                    rows_fit 4 _ (length t9) p.switches.1.1,
                    (
                      rows_fit 3 _ (length t10) p.customs.0,
                      (
                        rows_fit 5 _ (length t11) p.customs.1,
                        (
                          rows_fit 7 _ (length t12) p.functions.0,
                          (omega (arith, p.functions.1), tt),
                        ),
                      ),
                    ),
                  ),
                ),
              ),
            ),
          ),
        ),
      ),
    ),
  )

  all_fit : (a : A.Artifact) → Placed (places_of tables) a → AllFit tables (map length (R.tables_of a))
  all_fit a p = subst (AllFit tables) (words-used a) (used-fit a p)

  -- what the definition gives fits
  pub accepted-in-front : (mask : ℕ) (s : List ℕ) (a : A.Artifact) (last : Cursor) → definition.read (places_of tables) mask s ≡ got a last →
      filled_all tables (R.tables_of a) ≡ all_in_front tables (R.tables_of a)
  accepted-in-front mask s a last e =
      let sections = sections-got (places_of tables) mask s a last e in
      fitting-in-front tables (R.tables_of a) (all_fit a ((leaves-artifact (places_of tables) mask).always start a last sections))
