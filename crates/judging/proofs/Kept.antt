-- What the ten rules say where none is broken.
use Prim.Native.Nat.{ℕ, ◌<◌}
use mathlib.Core.Bool.{Bool, true, false}
use mathlib.Core.Path.{◌≡◌, refl}
use native.Mathlib.Omega.{arith}
use Rattle.model.specs.Lent.{Lent}
use Rattle.model.specs.Rules.{rule1, rule2, rule3, rule4, rule5, rule6, rule7, rule8, rule9, rule10}
use Rattle.model.specs.Written.{or_else, first_of_ten, broken_of_ten}

pub record Kept (mask : ℕ) (m : Lent) : Type 0 where
  pub one : rule1 m ≡ true
  pub two : rule2 m ≡ true
  pub three : rule3 m ≡ true
  pub four : rule4 m ≡ true
  pub five : rule5 mask m ≡ true
  pub six : rule6 m ≡ true
  pub seven : rule7 m ≡ true
  pub eight : rule8 m ≡ true
  pub nine : rule9 m ≡ true
  pub ten : rule10 m ≡ true

pub record Passed (holds : Bool) (rest : ℕ) : Type 0 where
  pub first : holds ≡ true
  pub behind : rest ≡ 0

passed : (holds : Bool) (rule rest : ℕ) → 0 < rule → or_else holds rule rest ≡ 0 → Passed holds rest
passed true rule rest h e = record { first = refl; behind = e }
passed false rule rest h e = absurd (omega arith)

pub kept : (mask : ℕ) (m : Lent) → broken_of_ten mask m ≡ 0 → Kept mask m
unfolding broken_of_ten first_of_ten
kept mask m e =
    let a = passed (rule1 m) 1 _ (omega arith) e in
    let b = passed (rule2 m) 2 _ (omega arith) a.behind in
    let c = passed (rule3 m) 3 _ (omega arith) b.behind in
    let d = passed (rule4 m) 4 _ (omega arith) c.behind in
    let f = passed (rule5 mask m) 5 _ (omega arith) d.behind in
    let g = passed (rule6 m) 6 _ (omega arith) f.behind in
    let h = passed (rule7 m) 7 _ (omega arith) g.behind in
    let i = passed (rule8 m) 8 _ (omega arith) h.behind in
    let j = passed (rule9 m) 9 _ (omega arith) i.behind in
    let k = passed (rule10 m) 10 _ (omega arith) j.behind in
    record {
      one = a.first;
      two = b.first;
      three = c.first;
      four = d.first;
      five = f.first;
      six = g.first;
      seven = h.first;
      eight = i.first;
      nine = j.first;
      ten = k.first;
    }
