-- Numbers in the file (document 01): how they are read, and the shortest form, which is written.
use Rattle.std.specs.Prelude.{ℕ, zero, suc, ◌+◌, ◌*◌, ◌/◌, ◌%◌, ◌^◌, List, [], ◌∷◌, ltb, eqb, ℤ, pos, negsuc, neg_ℤ, if◌then◌else◌}
use Rattle.refusal.specs.declared.Refusal.{Refusal}
use Rattle.grammar.specs.Outcome.{Parser, pure, refuse, ◌>>=◌, ◌>>◌}
use Rattle.grammar.specs.Combinators.{byte, check}

-- seven payload bits a byte, low group first; the top bit says that another byte follows; at most n bytes
unfoldable pub groups : ℕ → Parser ℕ
groups zero = refuse Refusal.MalformedVarint
groups (suc n) = do
  b ← byte
  if ltb b 128 then pure b else (do
    more ← groups n
    pure (b % 128 + 128 * more))

-- a number of so many bits, in at most ten bytes; wider is MalformedVarint
-- (at 64 bits that is a tenth byte with payload above 1)
unfoldable pub number : ℕ → Parser ℕ
number bits = do
  v ← groups 10
  check (ltb v (2 ^ bits)) Refusal.MalformedVarint
  pure v

-- an index fits 32 bits, a small fits 16
abbrev pub index : Parser ℕ
index = number 32

abbrev pub small : Parser ℕ
small = number 16

-- an even number u means u / 2, an odd number u means minus (u + 1) / 2
unfoldable pub unzigzag : ℕ → ℤ
unzigzag u = if eqb (u % 2) 0 then pos (u / 2) else neg_ℤ (pos ((u + 1) / 2))

unfoldable pub signed : Parser ℤ
signed = do
  u ← number 64
  pure (unzigzag u)

-- the number that means z
unfoldable pub zigzag : ℤ → ℕ
zigzag (pos n) = 2 * n
zigzag (negsuc n) = 2 * n + 1

-- the shortest form, in at most n bytes
unfoldable pub shortest_in : ℕ → ℕ → List ℕ
shortest_in zero v = []
shortest_in (suc n) v = if ltb v 128 then v ∷ [] else (v % 128 + 128) ∷ shortest_in n (v / 128)

unfoldable pub shortest : ℕ → List ℕ
shortest v = shortest_in 10 v
