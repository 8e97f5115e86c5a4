-- A small format that shows how the pieces go together: a count of trees, each a leaf with a number or a branch with a list of trees, nested at most four deep, in a table with so many places.
use Rattle.std.specs.Prelude.{ℕ, zero, suc, ◌+◌, ◌^◌, ◌<◌, length}
use mathlib.Core.List.{List, [], ◌∷◌, ◌++◌, foldl}
use Rattle.refusal.specs.declared.Refusal.{Refusal}
use Rattle.refusal.specs.declared.Place.{Place}
use Rattle.grammar.specs.Outcome.{Parser, pure, refuse, ◌>>=◌, ◌>>◌}
use Rattle.grammar.specs.Combinators.{byte, room, ◌⇒◌∣◌, unknown, many, put_all, EachFrom}
use Rattle.grammar.specs.Number.{number, shortest}

-- a tree over the trees one level deeper; none is deeper than the limit
pub data Node (E : Type 0) : Type 0 where
  leaf : ℕ → Node E
  branch : List E → Node E

abbrev pub Tree : ℕ → Type 0
Tree zero = ⊥
Tree (suc depth) = Node (Tree depth)

-- the places used behind a tree: one for itself and those of each tree in it
abbrev pub behind : (depth : ℕ) → ℕ → Tree depth → ℕ
behind zero used t = used
behind (suc depth) used (leaf n) = used + 1
behind (suc depth) used (branch trees) = foldl (behind depth) (used + 1) trees

-- tags 1 leaf, 2 branch; depth goes before Full, and Full before the tag
unfoldable pub tree : ℕ → (depth : ℕ) → ℕ → Parser (Tree depth)
tree cap zero used = refuse Refusal.ConstantTooDeep
tree cap (suc depth) used = do
  room 1 cap used
  tag ← byte
  (1 ⇒ (do
    n ← number 64
    pure (leaf n))
      ∣ 2 ⇒ (do
        n ← number 64
        trees ← many (behind depth) (tree cap depth) n (used + 1)
        pure (branch trees))
      ∣ unknown Place.Constant) tag

unfoldable pub trees : ℕ → Parser (List (Tree 4))
trees cap = do
  n ← number 64
  many (behind 4) (tree cap 4) n 0

-- how they are written
unfoldable pub put_tree : (depth : ℕ) → Tree depth → List ℕ
put_tree zero t = []
put_tree (suc depth) (leaf n) = 1 ∷ shortest n
put_tree (suc depth) (branch trees) = 2 ∷ (shortest (length trees) ++ put_all (put_tree depth) trees)

unfoldable pub put_trees : List (Tree 4) → List ℕ
put_trees trees = shortest (length trees) ++ put_all (put_tree 4) trees

-- numbers and counts fit 64 bits, and each tree has a place
abbrev pub Fit : ℕ → (depth : ℕ) → ℕ → Tree depth → Type 0
Fit cap zero used t = ⊥
Fit cap (suc depth) used (leaf n) = (used < cap) × (n < 2 ^ 64)
Fit cap (suc depth) used (branch trees) =
    (used < cap) × (length trees < 2 ^ 64) × EachFrom (behind depth) (Fit cap depth) (used + 1) trees

abbrev pub FitAll : ℕ → List (Tree 4) → Type 0
FitAll cap trees = (length trees < 2 ^ 64) × EachFrom (behind 4) (Fit cap 4) 0 trees
