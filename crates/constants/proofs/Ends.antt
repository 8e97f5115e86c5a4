-- The rows of a constant and its items end where the places behind it begin: eight words a place.
use Prim.Native.Nat.{ℕ, zero, suc, ◌+◌, ◌*◌}
use mathlib.Core.Path.{◌≡◌}
use mathlib.Core.Bool.{true, false}
use mathlib.Core.List.{List, [], ◌∷◌, foldl}
use native.Mathlib.Omega.{arith}
use lib.ListN.{length, length-append}
use Rattle.grammar.specs.declared.Span.{Span}
use Rattle.grammar.specs.Combinators.{Text}
use Rattle.tables.specs.Table.{rows}
use Rattle.format.specs.Artifact as A
use Rattle.format.specs.Rows.{nowhere, constant_rows}
use Rattle.constants.specs.Parts.{Item, item_behind, item_rows}

-- of each record, hence of a list
pub rows_end : {X : Type 0} (row : X → List ℕ) (next : ℕ → X → ℕ) → ((used : ℕ) (x : X) → used * 8 + length (row x) ≡ next used x * 8) →
    (used : ℕ) (xs : List X) → used * 8 + length (rows row xs) ≡ foldl next used xs * 8
rows_end row next each used [] = omega arith
rows_end row next each used (x ∷ xs) =
    omega (arith, length-append (row x) (rows row xs), each used x, rows_end row next each (next used x) xs)

pub constant-end : (levels : ℕ) (key : Span) (used : ℕ) (v : A.Constant Text levels) → used * 8 + length (constant_rows levels key v) ≡ A.behind Text levels used v * 8
constant-end zero key used v = absurd v
constant-end (suc levels) key used A.unit = omega arith
constant-end (suc levels) key used (A.boolean false) = omega arith
constant-end (suc levels) key used (A.boolean true) = omega arith
constant-end (suc levels) key used (A.int n) = omega arith
constant-end (suc levels) key used (A.float b) = omega arith
constant-end (suc levels) key used (A.char code) = omega arith
constant-end (suc levels) key used (A.str t) = omega arith
constant-end (suc levels) key used (A.array xs) = omega (arith, rows_end (constant_rows levels nowhere) (A.behind Text levels) (constant-end levels nowhere) (used + 1) xs)
constant-end (suc levels) key used (A.map es) =
    omega (arith, rows_end (item_rows levels) (item_behind levels) (λ used x. constant-end levels x.0.span used x.1) (used + 1) es)
constant-end (suc levels) key used (A.blob t) = omega arith
constant-end (suc levels) key used (A.range from to) = omega arith
constant-end (suc levels) key used (A.range_inclusive from to) = omega arith
constant-end (suc levels) key used (A.pointer name xs k) =
    omega (arith, rows_end (constant_rows levels nowhere) (A.behind Text levels) (constant-end levels nowhere) (used + 1) xs)

pub item-end : (levels used : ℕ) (x : Item levels) → used * 8 + length (item_rows levels x) ≡ item_behind levels used x * 8
item-end levels used x = constant-end levels x.0.span used x.1
