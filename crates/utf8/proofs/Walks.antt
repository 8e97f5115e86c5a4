-- Walks of the machine: they are joined end to end, a step at a time, and at the end the state is the answer.
-- Assumes nothing.
use mathlib.Core.Path.{◌≡◌, refl, ◌∙◌, ap, sym, subst}
use mathlib.Core.Bool.{Bool, true, false, not}
use mathlib.Core.List.{List, []}
use Prim.Native.Nat.{ℕ, ◌+◌, ◌≤◌, ◌<◌}
use native.Mathlib.Numerals.{add-one}
use native.Mathlib.Omega.{arith}
use lib.Dec.{T, eqb}
use lib.ListN.{length, get_or, drop, drop_of_length-le}
use lib.Seq.{drop-cons}
use Rattle.utf8.specs.Syntax.{UTF8-char}
use Rattle.utf8.specs.Check.{State, owes, next, passes, is_utf8}
use Rattle.utf8.specs.Machine.{states, state_of, Numbered, Means, Walked, Passed}
use Rattle.utf8.proofs.Laws.{refused-stays}
use Rattle.utf8.proofs.Tables.{below, numbered-at}

pub walked_here : (s : List ℕ) (n at : ℕ) → Numbered n → at ≤ length s → Walked s n at n at
walked_here s n at h k = record { numbered = h; up = omega arith; inside = k; same = refl }

pub walked_then : (s : List ℕ) (m from n mid p at : ℕ) → Walked s m from n mid → Walked s n mid p at → Walked s m from p at
walked_then s m from n mid p at v w = record { numbered = w.numbered; up = omega arith; inside = w.inside; same = v.same ∙ w.same }

pub step-walked : (s : List ℕ) (n at m : ℕ) → at < length s → Means m (next (state_of n) (get_or s at 0)) → Walked s n at m (at + 1)
unfolding passes
step-walked s n at m h k =
    record {
      numbered = k.numbered;
      up = omega arith;
      inside = omega arith;
      same = rw (add-one, drop-cons s at 0 h, k.means);
    }

pub between_is : state_of 6 ≡ owes []
unfolding state_of states UTF8-char
between_is = refl

pub passed-walked : (s : List ℕ) (from at : ℕ) → Passed s from at → Walked s 6 from 6 at
unfolding is_utf8
passed-walked s from at p =
    record { numbered = record { whole = refl; small = omega arith }; up = p.up; inside = p.inside; same = rw between_is p.same }

pub blocks-walked : (s : List ℕ) (n from at : ℕ) → n ≡ 6 → Passed s from at → Walked s n from n at
blocks-walked s n from at e p = subst (λ (m : ℕ). Walked s m from m at) (sym e) (passed-walked s from at p)

-- at the end the test passes in one state only
agree : Bool → Bool → Bool
agree true b = b
agree false b = not b

agree-is : (a b : Bool) → T (agree a b) → a ≡ b
unfolding agree
agree-is true true t = refl
agree-is true false t = absurd t
agree-is false true t = absurd t
agree-is false false t = refl

ends : (n : ℕ) → Numbered n → eqb n 6 ≡ passes (state_of n) []
unfolding below agree passes state_of states UTF8-char
ends n h =
    agree-is (eqb n 6) (passes (state_of n) []) (numbered-at (λ m. agree (eqb m 6) (passes (state_of m) [])) tt n h)

-- what was to be answered, by the state that is reached
reached : (s : List ℕ) (from n at : ℕ) → Walked s 6 from n at → passes (state_of n) (drop at s) ≡ is_utf8 (drop from s)
unfolding is_utf8
reached s from n at w = sym w.same ∙ ap (λ (state : State). passes state (drop from s)) between_is

pub refused-answers : (s : List ℕ) (from n at : ℕ) → n ≡ 0 → Walked s 6 from n at → false ≡ is_utf8 (drop from s)
unfolding state_of states
refused-answers s from n at e w =
    sym (refused-stays (drop at s))
    ∙ ap (λ (m : ℕ). passes (state_of m) (drop at s)) (sym e)
    ∙ reached s from n at w

pub answered : (s : List ℕ) (from n at : ℕ) → Walked s 6 from n at → length s ≤ at → eqb n 6 ≡ is_utf8 (drop from s)
answered s from n at w h =
    ends n w.numbered ∙ ap (passes (state_of n)) (sym (drop_of_length-le s h)) ∙ reached s from n at w
