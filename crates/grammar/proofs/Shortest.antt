-- The shortest form is the shortest, whatever bytes a number was read from, and takes one to ten bytes.
use Rattle.std.proofs.Common.{if◌then◌else◌}
use Prim.Native.Nat.{ℕ, zero, suc, ◌+◌, ◌*◌, ◌/◌, ◌%◌, ◌^◌, ◌≤◌}
use mathlib.Core.Path.{◌≡◌, refl, sym, ◌∙◌, ap}
use mathlib.Core.Bool.{Bool, true, false}
use mathlib.Core.List.{List, [], ◌∷◌}
use native.Mathlib.Omega.{arith}
use lib.ListN.{length, get_or}
use lib.Dec.{ltb}
use borrow.Author.Tests.{lt-ltb, ltb-true, ltb-false}
use Rattle.refusal.specs.declared.Refusal.{Refusal}
use Rattle.grammar.specs.declared.Cursor.{Cursor}
use Rattle.grammar.specs.Outcome.{advanced, Outcome, got, refused, pure, refuse, ◌>>=◌}
use Rattle.grammar.specs.Combinators.{enough, taking, byte}
use Rattle.grammar.specs.Number.{groups, number, shortest_in, shortest}
use Rattle.grammar.proofs.Outcome.{got-ne-refused, bind-got}
use Rattle.grammar.proofs.Number.{tested, number-tested}

byte-got : (s : List ℕ) (c : Cursor) (b : ℕ) (next : Cursor) → byte s c ≡ got b next → next.at ≡ c.at + 1
unfolding byte taking
byte-got s c b next e = go (enough 1 s c) e
  where
    go : (t : Bool) → (if t then got (get_or s c.at 0) (advanced c 1) else refused Refusal.Truncated) ≡ got b next → next.at ≡ c.at + 1
    go true e = let q : advanced c 1 ≡ next = cc in ap (λ (k : Cursor). k.at) (sym q)
    go false e = absurd (got-ne-refused (sym e))

-- no longer than one group, or than the groups behind it and one more
length-group : (n v more : ℕ) → (128 ≤ v → v / 128 ≡ more) → length (shortest_in (suc n) v) ≤ 1 + length (shortest_in n more)
unfolding shortest_in
length-group n v more h = go (ltb v 128) refl
  where
    go : (t : Bool) → ltb v 128 ≡ t →
        length (if t then v ∷ [] else (v % 128 + 128) ∷ shortest_in n (v / 128)) ≤ 1 + length (shortest_in n more)
    go true e = omega arith
    go false e = rw (h (ltb-false _ _ e)) (omega arith)

-- one group, read: it is the last, or the others stand behind it
module _ (n : ℕ) (s : List ℕ) (c : Cursor) (v : ℕ) (last : Cursor)
    (others : (next : Cursor) (more : ℕ) → groups n s next ≡ got more last → next.at + length (shortest_in n more) ≤ last.at) where
  group-least : (b : ℕ) (next : Cursor) (t : Bool) → ltb b 128 ≡ t → next.at ≡ c.at + 1 →
      (if t then pure b else (groups n >>= (λ more. pure (b % 128 + 128 * more)))) s next ≡ got v last →
      c.at + length (shortest_in (suc n) v) ≤ last.at
  unfolding pure shortest_in
  group-least b next true t at e =
      let same : b ≡ v = cc in
      let there : next ≡ last = cc in
      let place : next.at ≡ last.at = ap (λ (k : Cursor). k.at) there in
      rw (lt-ltb v 128 (rw same at (ltb-true b 128 t))) (omega arith)
  group-least b next false t at e =
      let r = bind-got (groups n) (λ more. pure (b % 128 + 128 * more)) s next v last e in
      let joined : got (b % 128 + 128 * r.value) r.next ≡ got v last = r.second in
      let value : b % 128 + 128 * r.value ≡ v = cc in
      let there : r.next ≡ last = cc in
      omega (arith, others next r.value (rw there at r.first), length-group n v r.value (λ _. omega arith))

groups-least : (n : ℕ) (s : List ℕ) (c : Cursor) (v : ℕ) (last : Cursor) → groups n s c ≡ got v last →
    c.at + length (shortest_in n v) ≤ last.at
unfolding groups refuse
groups-least zero s c v last e = absurd (got-ne-refused (sym e))
groups-least (suc n) s c v last e =
    let r = bind-got byte _ s c v last e in
    group-least n s c v last (λ next more. groups-least n s next more last) r.value r.next (ltb r.value 128) refl
    (byte-got s c r.value r.next r.first) r.second

-- whatever bytes a number was read from, its shortest form is no longer
pub shortest-least : (bits : ℕ) (s : List ℕ) (c : Cursor) (v : ℕ) (last : Cursor) → number bits s c ≡ got v last →
    c.at + length (shortest v) ≤ last.at
unfolding shortest
shortest-least bits s c v last e = go (groups 10 s c) refl (sym (number-tested bits s c) ∙ e)
  where
    within : (u : ℕ) (next : Cursor) (t : Bool) → (if t then got u next else refused Refusal.MalformedVarint) ≡ got v last → got u next ≡ got v last
    within u next true e = e
    within u next false e = absurd (got-ne-refused (sym e))

    go : (o : Outcome ℕ) → groups 10 s c ≡ o → tested bits o ≡ got v last → c.at + length (shortest_in 10 v) ≤ last.at
    go (got u next) is e = groups-least 10 s c v last (is ∙ within u next (ltb u (2 ^ bits)) e)
    go (refused r) is e = absurd (got-ne-refused (sym e))

length-shortest_in : (n v : ℕ) → (1 ≤ length (shortest_in (suc n) v)) × (length (shortest_in n v) ≤ n)
unfolding shortest_in
length-shortest_in n v = (some (ltb v 128), few n v)
  where
    some : (t : Bool) → 1 ≤ length (if t then v ∷ [] else (v % 128 + 128) ∷ shortest_in n (v / 128))
    some true = omega arith
    some false = omega arith

    few : (n v : ℕ) → length (shortest_in n v) ≤ n
    few zero v = omega arith
    few (suc n) v = let h = few n (v / 128) in omega (arith, length-group n v (v / 128) (λ _. refl))

pub shortest-some : (v : ℕ) → 1 ≤ length (shortest v)
unfolding shortest
shortest-some v = (length-shortest_in 9 v).0

pub shortest-few : (v : ℕ) → length (shortest v) ≤ 10
unfolding shortest
shortest-few v = (length-shortest_in 10 v).1
