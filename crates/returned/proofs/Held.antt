-- Tables that begin with the rows of what was read: the rows that are used are the rows of the records.
use Prim.Native.Nat.{ℕ, zero, suc, ◌+◌, ◌*◌, ◌/◌, ◌≤◌, ◌<◌}
use mathlib.Core.Path.{◌≡◌, refl, ap}
use mathlib.Core.Bool.{Bool, true}
use mathlib.Core.List.{List, [], ◌∷◌, ◌++◌, map, flat_map, append_assoc}
use native.Mathlib.Nat.{mul-add-div_right}
use native.Mathlib.Omega.{arith}
use lib.ListN.{length, length-append, get_or}
use lib.Seq.{take_at, drop_at}
use lib.Dec.{eqb}
use borrow.Author.Tests.{le-leb, eq-eqb}
use Rattle.grammar.specs.Combinators.{Each}
use Rattle.tables.specs.Table.{rows}
use Rattle.format.specs.Artifact as A
use Rattle.format.specs.Rows as R
use Rattle.rows.specs.Back.{cut, word}
use Rattle.chains.proofs.Words.{chain-width, step-width}
use Rattle.callables.proofs.Widths.{input-wide}
use Rattle.model.specs.Lent.{every}
use Rattle.model.specs.Rules.{fits, total}
use Rattle.reading.specs.Answer.{outside}
use Rattle.promises.specs.Back.{steps_of, cases_of, ranges_of, inputs_of, parameters_of, Begin}
use Rattle.returned.proofs.Lists.{each-flat, items-used, cases-used, ranges-used}

-- ── rows of one width ──

pub has_room : (used width : ℕ) (front rest : List ℕ) → 0 < width → length front ≡ used * width → fits used width (front ++ rest) ≡ true
has_room used width front rest h e =
    let inside : used ≤ used + length rest / width = omega arith in
    rw (length-append front rest, e, mul-add-div_right h used (length rest)) (le-leb _ _ inside)

pub record Holds {X : Type 0} (row : X → List ℕ) (width used : ℕ) (xs : List X) (table : List ℕ) : Type 0 where
  pub are : cut width used table ≡ map row xs
  pub room : fits used width table ≡ true

module _ {X : Type 0} (row : X → List ℕ) (width : ℕ) (wide : (x : X) → length (row x) ≡ width) where
  rows_cut : (xs : List X) (rest : List ℕ) → cut width (length xs) (rows row xs ++ rest) ≡ map row xs
  rows_cut [] rest = refl
  rows_cut (x ∷ xs) rest =
      rw (append_assoc (row x) (rows row xs) rest, take_at (row x) (rows row xs ++ rest) width (wide x), drop_at (row x) (rows row xs ++ rest) width (wide x), rows_cut xs rest)

  rows-wide : (xs : List X) → length (rows row xs) ≡ length xs * width
  rows-wide [] = omega arith
  rows-wide (x ∷ xs) = omega (arith, length-append (row x) (rows row xs), wide x, rows-wide xs)

  rows-hold : 0 < width → (xs : List X) (rest : List ℕ) → Holds row width (length xs) xs (rows row xs ++ rest)
  rows-hold h xs rest = record { are = rows_cut xs rest; room = has_room (length xs) width (rows row xs) rest h (rows-wide xs) }

-- ── items, one list behind the other ──

rows_append : {Y : Type 0} (row : Y → List ℕ) (a b : List Y) → rows row (a ++ b) ≡ rows row a ++ rows row b
rows_append row [] b = refl
rows_append row (y ∷ a) b = rw (rows_append row a b, append_assoc (row y) (rows row a) (rows row b))

rows-flat : {X Y : Type 0} (items : X → List Y) (row : Y → List ℕ) (xs : List X) → rows (λ x. rows row (items x)) xs ≡ rows row (flat_map items xs)
unfolding flat_map
rows-flat items row [] = refl
rows-flat items row (x ∷ xs) = rw (rows_append row (items x) (flat_map items xs), rows-flat items row xs)

items-hold : {X Y : Type 0} (items : X → List Y) (row : Y → List ℕ) (width : ℕ) → ((y : Y) → length (row y) ≡ width) → 0 < width → (xs : List X) (used : ℕ) →
    used ≡ length (flat_map items xs) → (rest : List ℕ) → Holds row width used (flat_map items xs) (rows (λ x. rows row (items x)) xs ++ rest)
items-hold items row width wide h xs used e rest = rw (rows-flat items row xs, e) (rows-hold row width wide h (flat_map items xs) rest)

-- ── the thirteen tables; of constants and ends, the words in front ──

begin-at : (tables words : List (List ℕ)) → Begin tables words → (i : ℕ) → i < length words → (rest : List ℕ) × (get_or tables i [] ≡ get_or words i [] ++ rest)
begin-at tables [] ok i h = absurd (omega arith)
begin-at [] (ws ∷ words) ok i h = absurd ok
begin-at (t ∷ tables) (ws ∷ words) ok zero h = ok.0
begin-at (t ∷ tables) (ws ∷ words) ok (suc i) h = begin-at tables words ok.1 i (omega arith)

-- the words of the ends are the ends
pub ends-are : (ends : List ℕ) → rows R.end_row ends ≡ ends
ends-are [] = refl
ends-are (end ∷ ends) = ap (λ (l : List ℕ). end ∷ l) (ends-are ends)

pub record Held (a : A.Artifact) (tables : List (List ℕ)) : Type 0 where
  pub names : Holds R.end_row 1 (outside a).used.names a.names.ends (get_or tables 0 [])
  pub ends : (rest : List ℕ) × (get_or tables 0 [] ≡ rows R.end_row a.names.ends ++ rest)
  pub constants : (rest : List ℕ) × (get_or tables 1 [] ≡ rows (R.constant_rows A.levels R.nowhere) a.constants ++ rest)
  pub tokens : Holds R.token_row 2 (outside a).used.tokens a.tokens (get_or tables 2 [])
  pub assigns : Holds R.assign_row 6 (outside a).used.assigns a.assigns (get_or tables 3 [])
  pub chains : Holds (λ w. R.chain_row w.whole) 9 (outside a).used.chains a.chains (get_or tables 4 [])
  pub steps : Holds R.step_row 11 (outside a).used.steps (steps_of a) (get_or tables 5 [])
  pub switches : Holds (λ w. R.switch_row w.whole) 3 (outside a).used.switches a.switches (get_or tables 6 [])
  pub cases : Holds R.case_row 2 (outside a).used.cases (cases_of a) (get_or tables 7 [])
  pub ranges : Holds R.range_row 4 (outside a).used.ranges (ranges_of a) (get_or tables 8 [])
  pub customs : Holds (λ w. R.site_row w.whole) 3 (outside a).used.customs a.customs (get_or tables 9 [])
  pub inputs : Holds R.input_row 5 (outside a).used.inputs (inputs_of a) (get_or tables 10 [])
  pub functions : Holds (λ w. R.function_row w.whole) 7 (outside a).used.functions a.functions (get_or tables 11 [])
  pub parameters : Holds R.parameter_row 1 (outside a).used.parameters (parameters_of a) (get_or tables 12 [])

pub tables-hold : (a : A.Artifact) (tables : List (List ℕ)) → Begin tables (R.tables_of a) → Held a tables
tables-hold a tables begins =
    record {
      names = rw (at 0 (omega arith)).1 (rows-hold R.end_row 1 (λ _. refl) (omega arith) a.names.ends _);
      ends = at 0 (omega arith);
      constants = at 1 (omega arith);
      tokens = rw (at 2 (omega arith)).1 (rows-hold R.token_row 2 (λ _. refl) (omega arith) a.tokens _);
      assigns = rw (at 3 (omega arith)).1 (rows-hold R.assign_row 6 (λ _. refl) (omega arith) a.assigns _);
      chains = rw (at 4 (omega arith)).1 (rows-hold _ 9 (λ w. chain-width w.whole) (omega arith) a.chains _);
      steps = rw (at 5 (omega arith)).1 (items-hold (λ w. w.items) R.step_row 11 step-width (omega arith) a.chains _ (items-used a.chains) _);
      switches = rw (at 6 (omega arith)).1 (rows-hold _ 3 (λ _. refl) (omega arith) a.switches _);
      cases = rw (at 7 (omega arith)).1 (items-hold (λ w. w.cases) R.case_row 2 (λ _. refl) (omega arith) a.switches _ (cases-used a.switches) _);
      ranges = rw (at 8 (omega arith)).1 (items-hold (λ w. w.ranges) R.range_row 4 (λ _. refl) (omega arith) a.switches _ (ranges-used a.switches) _);
      customs = rw (at 9 (omega arith)).1 (rows-hold _ 3 (λ _. refl) (omega arith) a.customs _);
      inputs = rw (at 10 (omega arith)).1 (items-hold (λ w. w.items) R.input_row 5 input-wide (omega arith) a.customs _ (items-used a.customs) _);
      functions = rw (at 11 (omega arith)).1 (rows-hold _ 7 (λ _. refl) (omega arith) a.functions _);
      parameters = rw (at 12 (omega arith)).1 (items-hold (λ w. w.items) R.parameter_row 1 (λ _. refl) (omega arith) a.functions _ (items-used a.functions) _);
    }
  where
    at : (i : ℕ) → i < 13 → (rest : List ℕ) × (get_or tables i [] ≡ get_or (R.tables_of a) i [] ++ rest)
    at i h = begin-at tables (R.tables_of a) begins i h

-- ── what holds of each row ──

-- a test that holds of each
pub each-every : {X : Type 0} (test : X → Bool) (xs : List X) → Each (λ x. test x ≡ true) xs → every test xs ≡ true
each-every test [] ok = refl
each-every test (x ∷ xs) ok = rw (ok.0, each-every test xs ok.1)

module _ {X : Type 0} {row : X → List ℕ} {width used : ℕ} {xs : List X} {table : List ℕ} (h : Holds row width used xs table) where
  pub every-row : (test : List ℕ → Bool) → Each (λ x. test (row x) ≡ true) xs → every test (cut width used table) ≡ true
  every-row test ok = rw h.are (go xs ok)
    where
      go : (ys : List X) → Each (λ x. test (row x) ≡ true) ys → every test (map row ys) ≡ true
      go [] ok = refl
      go (y ∷ ys) ok = rw (ok.0, go ys ok.1)

  -- the items that records say they have are all that are used of their table
  pub shares : {Y : Type 0} (items : X → List Y) (i : ℕ) {all : ℕ} → all ≡ length (flat_map items xs) → Each (λ x. word (row x) i ≡ length (items x)) xs →
      eqb (total i (cut width used table)) all ≡ true
  unfolding total flat_map
  shares {Y} items i {all} e ok = rw (h.are, e) (eq-eqb _ _ (go xs ok))
    where
      go : (ys : List X) → Each (λ x. word (row x) i ≡ length (items x)) ys → total i (map row ys) ≡ length (flat_map items ys)
      go [] ok = refl
      go (y ∷ ys) ok = omega (arith, ok.0, go ys ok.1, length-append (items y) (flat_map items ys))

-- of each row of items, which stand one list behind the other
pub every-item : {X Y : Type 0} (items : X → List Y) (xs : List X) {row : Y → List ℕ} {width used : ℕ} {table : List ℕ} → Holds row width used (flat_map items xs) table →
    (test : List ℕ → Bool) → Each (λ x. Each (λ y. test (row y) ≡ true) (items x)) xs → every test (cut width used table) ≡ true
every-item items xs {row} h test ok = every-row h test (each-flat items (λ y. test (row y) ≡ true) xs ok)
