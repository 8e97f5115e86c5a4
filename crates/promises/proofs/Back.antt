-- Tables that begin with the rows of what was read give its records back.
use Prim.Native.Nat.{ℕ, zero, suc, ◌<◌}
use mathlib.Core.Path.{◌≡◌, refl, ◌∙◌, ap}
use mathlib.Core.List.{List, [], ◌∷◌, ◌++◌, map, flat_map, append_assoc}
use native.Mathlib.Omega.{arith}
use lib.ListN.{length, get_or}
use lib.Seq.{take_at, drop_at}
use Rattle.grammar.specs.Combinators.{Each}
use Rattle.tables.specs.Table.{rows, With}
use Rattle.format.specs.declared.records.Switch.{Switch}
use Rattle.format.specs.declared.records.Case.{Case}
use Rattle.format.specs.declared.records.Range.{Range}
use Rattle.format.specs.Artifact as A
use Rattle.format.specs.Rows as R
use Rattle.rows.specs.Back as B
use Rattle.rows.specs.Back.{records_of}
use Rattle.rows.specs.Fits.{Throughout, ThroughoutCases}
use Rattle.rows.specs.Given.{Back, GivenBack}
use Rattle.stored.proofs.Stored.{each}
use Rattle.chains.proofs.Words.{chain-width, step-width}
use Rattle.callables.proofs.Widths.{input-wide}
use Rattle.promises.specs.Words.{all_in_front}
use Rattle.promises.specs.Back.{TablesGive, Begin}

-- rows of one width, in front of a table
rows-give : {X Y : Type 0} (row : X → List ℕ) (of : List ℕ → Y) (view : X → Y) (width : ℕ) → ((x : X) → length (row x) ≡ width) →
    (xs : List X) (rest : List ℕ) → Each (λ x. of (row x) ≡ view x) xs → records_of width of (length xs) (rows row xs ++ rest) ≡ map view xs
rows-give row of view width wide [] rest ok = refl
rows-give row of view width wide (x ∷ xs) rest ok =
    rw (append_assoc (row x) (rows row xs) rest, take_at (row x) (rows row xs ++ rest) width (wide x), drop_at (row x) (rows row xs ++ rest) width (wide x), ok.0, rows-give row of view width wide xs rest ok.1)

-- ── items, one list behind the other ──

rows_append : {Y : Type 0} (row : Y → List ℕ) (a b : List Y) → rows row (a ++ b) ≡ rows row a ++ rows row b
rows_append row [] b = refl
rows_append row (y ∷ a) b = rw (rows_append row a b, append_assoc (row y) (rows row a) (rows row b))

each_append : {Y : Type 0} (P : Y → Type 0) (a b : List Y) → Each P a → Each P b → Each P (a ++ b)
each_append P [] b first second = second
each_append P (y ∷ a) b first second = (first.0, each_append P a b first.1 second)

map_same : {Y : Type 0} (ys : List Y) → map (λ (y : Y). y) ys ≡ ys
map_same [] = refl
map_same (y ∷ ys) = ap (λ (l : List _). y ∷ l) (map_same ys)

module _ {X Y : Type 0} (items : X → List Y) where
  rows-flat : (row : Y → List ℕ) (xs : List X) → rows (λ x. rows row (items x)) xs ≡ rows row (flat_map items xs)
  unfolding flat_map
  rows-flat row [] = refl
  rows-flat row (x ∷ xs) = rw (rows_append row (items x) (flat_map items xs), rows-flat row xs)

  each-flat : (P : Y → Type 0) (xs : List X) → Each (λ x. Each P (items x)) xs → Each P (flat_map items xs)
  unfolding flat_map
  each-flat P [] ok = tt
  each-flat P (x ∷ xs) ok = each_append P (items x) (flat_map items xs) ok.0 (each-flat P xs ok.1)

  items_give : (row : Y → List ℕ) (of : List ℕ → Y) (width : ℕ) → ((y : Y) → length (row y) ≡ width) → (xs : List X) (rest : List ℕ) →
      Each (λ x. Each (Back row of) (items x)) xs →
      records_of width of (length (flat_map items xs)) (rows (λ x. rows row (items x)) xs ++ rest) ≡ flat_map items xs
  items_give row of width wide xs rest ok =
      rw (rows-flat row xs) (rows-give row of (λ y. y) width wide (flat_map items xs) rest (each-flat (Back row of) xs ok) ∙ map_same (flat_map items xs))

-- ── the thirteen tables ──

begin-at : (tables words : List (List ℕ)) → Begin tables words → (i : ℕ) → i < length words → (rest : List ℕ) × (get_or tables i [] ≡ get_or words i [] ++ rest)
begin-at tables [] ok i h = absurd (omega arith)
begin-at [] (ws ∷ words) ok i h = absurd ok
begin-at (t ∷ tables) (ws ∷ words) ok zero h = ok.0
begin-at (t ∷ tables) (ws ∷ words) ok (suc i) h = begin-at tables words ok.1 i (omega arith)

pub begin-front : (tables words : List (List ℕ)) → length tables ≡ length words → Begin (all_in_front tables words) words
begin-front tables [] e = tt
begin-front [] (ws ∷ words) e = absurd (omega arith)
begin-front (t ∷ tables) (ws ∷ words) e = ((_, refl), begin-front tables words (omega arith))

-- of a record with items, and of a switch
whole_of : {X Y : Type 0} {P : X → Type 0} {Q : Y → Type 0} (w : With X Y) → Throughout P Q w → P w.whole
whole_of w ok = ok.whole

items-of : {X Y : Type 0} {P : X → Type 0} {Q : Y → Type 0} (w : With X Y) → Throughout P Q w → Each Q w.items
items-of w ok = ok.items

module _ {P : Switch → Type 0} {Q : Case → Type 0} {S : Range → Type 0} where
  switch-of : (w : A.Cased) → ThroughoutCases P Q S w → P w.whole
  switch-of w ok = ok.whole

  cases_of : (w : A.Cased) → ThroughoutCases P Q S w → Each Q w.cases
  cases_of w ok = ok.cases

  ranges-of : (w : A.Cased) → ThroughoutCases P Q S w → Each S w.ranges
  ranges-of w ok = ok.ranges

pub tables-give : (a : A.Artifact) (tables : List (List ℕ)) → GivenBack a → Begin tables (R.tables_of a) → TablesGive a tables
tables-give a tables back begin =
    record {
      names = rw (at 0 (omega arith)).1 (rows-give R.end_row B.end_of (λ n. n) 1 (λ _. refl) a.names.ends _ back.names ∙ map_same a.names.ends);
      constants = rw (at 1 (omega arith)).1 (back.constants _);
      tokens = rw (at 2 (omega arith)).1 (rows-give R.token_row B.span_of (λ t. t.span) 2 (λ _. refl) a.tokens _ back.tokens);
      assigns = rw (at 3 (omega arith)).1 (rows-give R.assign_row B.assign_of _ 6 (λ _. refl) a.assigns _ back.assigns);
      chains = rw (at 4 (omega arith)).1 (rows-give (λ w. R.chain_row w.whole) B.chain_of (λ w. w.whole) 9 (λ w. chain-width w.whole) a.chains _ (each whole_of a.chains back.chains));
      steps = rw (at 5 (omega arith)).1 (items_give (λ w. w.items) R.step_row B.step_of 11 step-width a.chains _ (each items-of a.chains back.chains));
      switches = rw (at 6 (omega arith)).1 (rows-give (λ w. R.switch_row w.whole) B.switch_of (λ w. w.whole) 3 (λ _. refl) a.switches _ (each switch-of a.switches back.switches));
      cases = rw (at 7 (omega arith)).1 (items_give (λ w. w.cases) R.case_row B.case_of 2 (λ _. refl) a.switches _ (each cases_of a.switches back.switches));
      ranges = rw (at 8 (omega arith)).1 (items_give (λ w. w.ranges) R.range_row B.range_of 4 (λ _. refl) a.switches _ (each ranges-of a.switches back.switches));
      customs = rw (at 9 (omega arith)).1 (rows-give (λ w. R.site_row w.whole) B.site_of (λ w. w.whole) 3 (λ _. refl) a.customs _ (each whole_of a.customs back.customs));
      inputs = rw (at 10 (omega arith)).1 (items_give (λ w. w.items) R.input_row B.input_of 5 input-wide a.customs _ (each items-of a.customs back.customs));
      functions = rw (at 11 (omega arith)).1 (rows-give (λ w. R.function_row w.whole) B.function_of (λ w. w.whole) 7 (λ _. refl) a.functions _ (each whole_of a.functions back.functions));
      parameters = rw (at 12 (omega arith)).1 (items_give (λ w. w.items) R.parameter_row B.parameter_of 1 (λ _. refl) a.functions _ (each items-of a.functions back.functions));
    }
  where
    at : (i : ℕ) → i < 13 → (rest : List ℕ) × (get_or tables i [] ≡ get_or (R.tables_of a) i [] ++ rest)
    at i h = begin-at tables (R.tables_of a) begin i h
