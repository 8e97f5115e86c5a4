-- What stands behind the rows, once it is cleared: as many words are in front as the rows have, and so each table is a cleared one filled.
use Prim.Native.Nat.{ℕ, ◌+◌, ◌-◌, ◌*◌}
use mathlib.Core.Path.{◌≡◌, refl, sym}
use mathlib.Core.List.{List, [], ◌∷◌, map, foldl}
use native.Mathlib.Omega.{arith}
use lib.ListN.{length, replicate}
use Rattle.grammar.specs.Combinators.{Text}
use Rattle.tables.specs.Table.{rows}
use Rattle.tables.proofs.Nesting.{length-rows, words-of}
use Rattle.tables.proofs.Stores.{front-filled}
use Rattle.constants.proofs.Ends.{rows_end, constant-end}
use Rattle.chains.proofs.Words.{chain-width, step-width}
use Rattle.callables.proofs.Widths.{input-wide}
use Rattle.format.specs.Artifact as A
use Rattle.format.specs.Rows as R
use Rattle.reading.specs.Answer.{outside, filled_all}
use Rattle.reading.specs.Places.{words_of, front_all, stored_all}

-- both counts of switches, each by itself
cases_of : (used : A.UsedCases) (xs : List A.Cased) → (foldl A.count_cases used xs).cases ≡ foldl (λ n w. n + length w.cases) used.cases xs
cases_of used [] = refl
cases_of used (x ∷ xs) = cases_of (A.count_cases used x) xs

ranges-of : (used : A.UsedCases) (xs : List A.Cased) → (foldl A.count_cases used xs).ranges ≡ foldl (λ n w. n + length w.ranges) used.ranges xs
ranges-of used [] = refl
ranges-of used (x ∷ xs) = ranges-of (A.count_cases used x) xs

pub both : {X : Type 0} {x y : X} {xs ys : List X} → x ≡ y → xs ≡ ys → x ∷ xs ≡ y ∷ ys
both e es = rw (e, es)

-- the words of the places used are those of the rows
pub words-used : (a : A.Artifact) → words_of (outside a).used ≡ map length (R.tables_of a)
words-used a =
    both (single R.end_row 1 (λ _. refl) a.names.ends)
    (both constants
    (both (single R.token_row 2 (λ _. refl) a.tokens)
    (both (single R.assign_row 6 (λ _. refl) a.assigns)
    (both (single (R.whole R.chain_row) 9 (λ w. chain-width w.whole) a.chains)
    (both (sym (words-of (R.items R.step_row) (λ w. length w.items) 11 (λ w. length-rows R.step_row 11 step-width w.items) a.chains))
    (both (single (λ w. R.switch_row w.whole) 3 (λ _. refl) a.switches)
    (both (rw (cases_of (record { cases = 0; ranges = 0 }) a.switches) (sym (words-of (λ w. rows R.case_row w.cases) (λ w. length w.cases) 2 (λ w. length-rows R.case_row 2 (λ _. refl) w.cases) a.switches)))
    (both (rw (ranges-of (record { cases = 0; ranges = 0 }) a.switches) (sym (words-of (λ w. rows R.range_row w.ranges) (λ w. length w.ranges) 4 (λ w. length-rows R.range_row 4 (λ _. refl) w.ranges) a.switches)))
    (both (single (R.whole R.site_row) 3 (λ _. refl) a.customs)
    (both (sym (words-of (R.items R.input_row) (λ w. length w.items) 5 (λ w. length-rows R.input_row 5 input-wide w.items) a.customs))
    (both (single (R.whole R.function_row) 7 (λ _. refl) a.functions)
    (both (sym (words-of (R.items R.parameter_row) (λ w. length w.items) 1 (λ w. length-rows R.parameter_row 1 (λ _. refl) w.items) a.functions)) refl))))))))))))
  where
    single : {X : Type 0} (row : X → List ℕ) (width : ℕ) → ((x : X) → length (row x) ≡ width) → (xs : List X) → length xs * width ≡ length (rows row xs)
    single row width wide xs = sym (length-rows row width wide xs)

    constants : foldl (A.behind Text A.levels) 0 a.constants * 8 ≡ length (rows (R.constant_rows A.levels R.nowhere) a.constants)
    constants =
        let end = rows_end (R.constant_rows A.levels R.nowhere) (A.behind Text A.levels) (constant-end A.levels R.nowhere) 0 a.constants in
        omega (arith, end)

pub all-filled : (tables words : List (List ℕ)) → front_all (map length words) (stored_all tables words) ≡ filled_all tables words
all-filled [] [] = refl
all-filled [] (ws ∷ words) = refl
all-filled (t ∷ tables) [] = refl
all-filled (t ∷ tables) (ws ∷ words) = both (front-filled t ws) (all-filled tables words)

-- no rows stay: every word is cleared
pub all-cleared : (tables : List (List ℕ)) → front_all (replicate (length tables) 0) tables ≡ map (λ n. replicate n 0) (map length tables)
all-cleared [] = refl
all-cleared (t ∷ tables) = let e : length t - 0 ≡ length t = omega arith in both (rw e) (all-cleared tables)
