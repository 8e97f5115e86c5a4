-- How long a number is at most, and the laws of `Counts`.
use Rattle.std.proofs.Common.{if◌then◌else◌}
use Prim.Native.Nat.{ℕ, zero, suc, ◌+◌, ◌/◌, ◌%◌, ◌≤◌, min}
use mathlib.Core.Path.{◌≡◌}
use mathlib.Core.Bool.{Bool, true, false}
use mathlib.Core.List.{List, [], ◌∷◌, ◌++◌}
use native.Mathlib.Omega.{arith}
use lib.Dec.{ltb}
use lib.ListN.{length, length-append}
use Rattle.grammar.specs.Number.{shortest, shortest_in}
use Rattle.sizes.specs.Counts.{Counts}

-- ── numbers ──

more : (b : Bool) (x : ℕ) (l : List ℕ) {n : ℕ} → length l ≤ n → length (if b then x ∷ [] else (x % 128 + 128) ∷ l) ≤ suc n
more true x l h = omega arith
more false x l h = omega arith

short-in : (n v : ℕ) → length (shortest_in n v) ≤ n
unfolding shortest_in
short-in zero v = omega arith
short-in (suc n) v = more (ltb v 128) v (shortest_in n (v / 128)) (short-in n (v / 128))

pub short : (v : ℕ) → length (shortest v) ≤ 10
unfolding shortest
short v = short-in 10 v

-- ── places ──

pub counts_same : {a b : List ℕ} {at next : ℕ} → length a ≡ length b → Counts a at next → Counts b at next
counts_same same p = record { next = omega (arith, p.next) }

pub counts-then : {a b : List ℕ} {at mid next : ℕ} → Counts a at mid → Counts b mid next → Counts (a ++ b) at next
counts-then {a} {b} p q = record { next = rw (length-append a b) (omega (arith, p.next, q.next)) }

-- by a size
pub counts-size : {bytes : List ℕ} {n at next : ℕ} → n ≡ length bytes → next ≡ min (at + n) 1048577 → Counts bytes at next
counts-size is next = record { next = rw (← is) next }
