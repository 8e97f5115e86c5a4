-- The constants that rows mean, whatever the rows are: behind a constant's row stand those of its items, each with its own items behind it.
use Rattle.std.specs.Prelude.{ℕ, zero, suc, List, [], ◌∷◌, map}
use Rattle.grammar.specs.declared.Span.{Span}
use Rattle.format.specs.Artifact as A
use Rattle.rows.specs.declared.constants.Kind.{Kind}
use Rattle.rows.specs.declared.constants.Constant.{Constant}
use Rattle.rows.specs.declared.constants.Keyed.{Keyed}

-- how many items a constant says that it has
abbrev pub items_of : Constant → ℕ
items_of (Constant.Array items) = items
items_of (Constant.Map items) = items
items_of (Constant.Pointer name items kind) = items
items_of Constant.Unit = 0
items_of (Constant.Boolean b) = 0
items_of (Constant.Int n) = 0
items_of (Constant.Float bits) = 0
items_of (Constant.Char code) = 0
items_of (Constant.Str t) = 0
items_of (Constant.Blob t) = 0
items_of (Constant.Range from to) = 0
items_of (Constant.RangeInclusive from to) = 0

abbrev pub kind : Kind → A.Kind
kind Kind.Normal = A.normal
kind (Kind.Script parameters) = A.script parameters

-- an item without the key of its row, at which only a map looks
abbrev pub value : {E : Type 0} → Span × E → E
value entry = entry.1

-- a constant over its items
abbrev pub node : {E : Type 0} → Constant → List (Span × E) → A.Node Span E
node Constant.Unit items = A.unit
node (Constant.Boolean b) items = A.boolean b
node (Constant.Int n) items = A.int n
node (Constant.Float bits) items = A.float bits
node (Constant.Char code) items = A.char code
node (Constant.Str t) items = A.str t
node (Constant.Array n) items = A.array (map value items)
node (Constant.Map n) items = A.map items
node (Constant.Blob t) items = A.blob t
node (Constant.Range from to) items = A.range from to
node (Constant.RangeInclusive from to) items = A.range_inclusive from to
node (Constant.Pointer name n k) items = A.pointer name (map value items) (kind k)

-- what grew, and the rows that are left
pub record Grown (levels : ℕ) : Type 0 where
  pub trees : List (Span × A.Constant Span levels)
  pub rest : List Keyed

-- the next n constants, of at most so many levels; where no level or no row is left it ends
abbrev pub grow : (levels n : ℕ) → List Keyed → Grown levels
grow zero n rows = record { trees = []; rest = rows }
grow (suc levels) zero rows = record { trees = []; rest = rows }
grow (suc levels) (suc n) [] = record { trees = []; rest = [] }
grow (suc levels) (suc n) (row ∷ rows) =
    let items = grow levels (items_of row.constant) rows in
    let others = grow (suc levels) n items.rest in
    record { trees = (row.key, node row.constant items.trees) ∷ others.trees; rest = others.rest }

-- a constant with something else in place of its texts
abbrev pub over_texts : {T U : Type 0} → (T → U) → (levels : ℕ) → A.Constant T levels → A.Constant U levels
over_texts f zero c = c
over_texts f (suc levels) A.unit = A.unit
over_texts f (suc levels) (A.boolean b) = A.boolean b
over_texts f (suc levels) (A.int n) = A.int n
over_texts f (suc levels) (A.float bits) = A.float bits
over_texts f (suc levels) (A.char code) = A.char code
over_texts f (suc levels) (A.str t) = A.str (f t)
over_texts f (suc levels) (A.array items) = A.array (map (over_texts f levels) items)
over_texts f (suc levels) (A.map entries) = A.map (map (λ entry. (f entry.0, over_texts f levels entry.1)) entries)
over_texts f (suc levels) (A.blob t) = A.blob (f t)
over_texts f (suc levels) (A.range from to) = A.range from to
over_texts f (suc levels) (A.range_inclusive from to) = A.range_inclusive from to
over_texts f (suc levels) (A.pointer name curried kind) = A.pointer (f name) (map (over_texts f levels) curried) kind
