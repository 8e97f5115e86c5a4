-- The groups of a number that has at most five, each with the mark that says whether more follow: its shortest form, and what is stored behind it.
use Rattle.std.proofs.Common.{if◌then◌else◌}
use Prim.Native.Nat.{ℕ, zero, suc, ◌+◌, ◌/◌, ◌%◌, ◌^◌, ◌≤◌, ◌<◌}
use mathlib.Core.Path.{◌≡◌, refl, sym, ◌∙◌, ap}
use mathlib.Core.Bool.{Bool, true, false}
use mathlib.Core.List.{List, [], ◌∷◌, ◌++◌}
use native.Mathlib.Nat.{pow-succ'}
use native.Mathlib.Omega.{arith}
use borrow.Author.Tests.{le-leb, lt-leb, ltb-true, ltb-false}
use lib.Dec.{leb, ltb}
use lib.ListN.{length, take, drop, take-append-drop, length-take}
use Rattle.grammar.specs.Number.{shortest, shortest_in}
use Rattle.varint.proofs.Shortest.{more-group, last-group}
use Rattle.emit.specs.Puts.{Puts}
use borrow.Rule.Slice.PartMut.{put_mid}
use Rattle.emit.proofs.Laws.{puts-part}

abbrev pub group : ℕ → ℕ
group v = v % 128 + (if leb 128 v then 128 else 0)

-- n groups, low first
abbrev groups : ℕ → ℕ → List ℕ
groups zero v = []
groups (suc n) v = group v ∷ groups n (v / 128)

group-last : (v : ℕ) → v < 128 → group v ≡ v
group-last v h = rw (lt-leb 128 v h) (omega arith)

group-more : (v : ℕ) → 128 ≤ v → group v ≡ v % 128 + 128
group-more v h = rw (le-leb 128 v h)

-- where the groups are enough, the shortest form stands in front
front : (n m v : ℕ) → n ≤ m → v < 128 ^ suc n → take (length (shortest_in (suc m) v)) (groups (suc n) v) ≡ shortest_in (suc m) v
front zero m v few below = let h : v < 128 = omega arith in rw (last-group m v h, group-last v h)
front (suc n) zero v few below = absurd (omega arith)
front (suc n) (suc m) v few below = go (ltb v 128) refl (front n m (v / 128) (omega arith) (omega (arith, pow-succ' 128 (suc n))))
  where
    go : (b : Bool) → ltb v 128 ≡ b → take (length (shortest_in (suc m) (v / 128))) (groups (suc n) (v / 128)) ≡ shortest_in (suc m) (v / 128) →
        take (length (shortest_in (suc (suc m)) v)) (groups (suc (suc n)) v) ≡ shortest_in (suc (suc m)) v
    go true e rest = let h : v < 128 = ltb-true _ _ e in rw (last-group (suc m) v h, group-last v h)
    go false e rest =
        let h : 128 ≤ v = ltb-false _ _ e in
        rw (more-group (suc m) v h, group-more v h) (ap (λ (l : List ℕ). (v % 128 + 128) ∷ l) rest)

abbrev five_of : ℕ → List ℕ
five_of v = group v ∷ group (v / 128) ∷ group (v / 128 / 128) ∷ group (v / 128 / 128 / 128) ∷ group (v / 128 / 128 / 128 / 128) ∷ []

five-all : (v : ℕ) → v < 34359738368 → five_of v ≡ shortest v ++ drop (length (shortest v)) (five_of v)
unfolding shortest
five-all v h =
    sym (take-append-drop (length (shortest v)) (five_of v)) ∙ ap (λ (l : List ℕ). l ++ drop (length (shortest v)) (five_of v)) (front 4 9 v (omega arith) (omega arith))

pub five-few : (v : ℕ) → v < 34359738368 → length (shortest v) ≤ 5
unfolding shortest
five-few v h = omega (arith, sym (ap length (front 4 9 v (omega arith) (omega arith))) ∙ length-take (length (shortest v)) (five_of v))

pub five-puts : (v : ℕ) {e part : List ℕ} {at k next : ℕ} → v < 34359738368 →
    part ≡ group v ∷ group (v / 128) ∷ group (v / 128 / 128) ∷ group (v / 128 / 128 / 128) ∷ group (v / 128 / 128 / 128 / 128) ∷ [] → k ≡ 5 →
    at + 5 ≤ length e → next ≡ at + length (shortest v) → Puts (shortest v) e at (put_mid at k e part) next
five-puts v h is five room here =
    puts-part (shortest v) (drop (length (shortest v)) (five_of v)) (is ∙ five-all v h) (ap length is ∙ sym five) (omega arith) here

-- there is always one
pub some_bytes : (v : ℕ) → 0 < length (shortest v)
unfolding shortest shortest_in
some_bytes v = go (ltb v 128)
  where
    go : (b : Bool) → 0 < length (if b then v ∷ [] else (v % 128 + 128) ∷ shortest_in 9 (v / 128))
    go true = omega arith
    go false = omega arith
