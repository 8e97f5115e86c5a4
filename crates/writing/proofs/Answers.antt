-- What writing answers and leaves, by the rule that was found broken, the bytes that were counted, and the room.
use Prim.Native.Nat.{ℕ, zero, suc, ◌+◌, ◌≤◌, ◌<◌, min}
use mathlib.Core.Path.{◌≡◌, refl, sym, ◌∙◌, ap}
use mathlib.Core.Bool.{Bool, true, false, ◌&&◌}
use mathlib.Core.List.{List, ◌++◌}
use native.Mathlib.Nat.{zero-add}
use native.Mathlib.Omega.{arith}
use borrow.Author.Tests.{le-leb, lt-leb}
use lib.ListN.{length, take, drop}
use lib.Seq.{length-take-le, take_all}
use Rattle.refusal.specs.declared.Refusal.{Refusal}
use Rattle.std.specs.Prelude.{Result, Ok, Err}
use Rattle.model.specs.Lent.{Lent, constant_rows, chain_rows, every}
use Rattle.model.specs.Rules.{known_constant, known_chain}
use Rattle.model.specs.Written.{bytes_of, broken_of_ten, rule11, lowest_broken, else_eleven, Writes, answered, left}
use Rattle.rules.proofs.Both.{both}
use Rattle.std.specs.Result.{IsErrAnd}
use Rattle.std.proofs.lemmas.Result.{err_from_is_err_and}
use Rattle.judging.specs.Judged.{judged}
use Rattle.judging.proofs.Kept.{kept}
use Rattle.emit.specs.Puts.{Puts}
use Rattle.writing.specs.Ready.{Ready}

-- ── where no rule of the ten is broken ──

pub ready : {m : Lent} (mask : ℕ) → broken_of_ten mask m ≡ 0 → Ready m
ready {m} mask none =
    let k = kept mask m none in
    let trees = every known_constant (constant_rows m) in
    let known = both (trees && every known_chain (chain_rows m)) _ k.five in
    record { counted = k.one; known = (both trees _ known.first).first; shallow = k.six }

-- ── what is answered and left ──

-- the lowest broken rule, by the ten and the length
lowest : (mask : ℕ) (stripped : Bool) (m : Lent) (ten : ℕ) (holds : Bool) → broken_of_ten mask m ≡ ten → rule11 stripped m ≡ holds →
    lowest_broken mask stripped m ≡ else_eleven ten holds
unfolding lowest_broken
lowest mask stripped m ten holds is long = rw (is, long)

-- what was put into the front of the output, where it takes all of it, is what stands there
all-put : (out : List ℕ) (size : ℕ) {bytes exit : List ℕ} {next : ℕ} → Puts bytes (take size out) 0 exit next → length bytes ≡ size → size ≤ length out → exit ≡ bytes
all-put out size {bytes} {exit} p long room =
    let front : length (take size out) ≡ size = length-take-le size out room in
    let here : 0 + length bytes ≡ size = zero-add (length bytes) ∙ long in
    sym (take_all (0 + length bytes) exit (omega (arith, p.kept))) ∙ p.stored (omega arith)

-- a count that is not past the longest file is the length
whole : (stripped : Bool) (m : Lent) (size : ℕ) → size ≡ min (length (bytes_of stripped m)) 1048577 → size ≤ 1048576 →
    length (bytes_of stripped m) ≡ size
whole stripped m size is short = omega (arith, is)

-- what judging answers of the lowest broken rule
pub judged-sound : (rule : ℕ) {r : Result (Unit {0}) Refusal} → r ≡ judged rule → r ≡ Ok tt → rule ≡ 0
judged-sound zero is e = refl
judged-sound (suc rule) {r} is e = let no : ◌≡◌ {A = Result (Unit {0}) Refusal} (Err (Refusal.BadModel (suc rule))) (Ok tt) = sym is ∙ e in absurd cc

module _ {mask : ℕ} {stripped : Bool} {m : Lent} {out : List ℕ} where
  writes-by : {exit : List ℕ} {r : Result ℕ Refusal} (rule : ℕ) → lowest_broken mask stripped m ≡ rule → r ≡ answered rule (bytes_of stripped m) out →
      exit ≡ left rule (bytes_of stripped m) out → Writes mask stripped m out exit r
  writes-by rule is answers leaves = record { result = rw is answers; output = rw is leaves }

  -- one of the ten is broken
  pub writes-broken : (rule : ℕ) → broken_of_ten mask m ≡ rule → (rule ≡ 0 → ⊥) → Writes mask stripped m out out (Err (Refusal.BadModel rule))
  writes-broken zero is h = absurd (h refl)
  writes-broken (suc rule) is h = writes-by (suc rule) (lowest mask stripped m (suc rule) _ is refl) refl refl

  -- as judging answers it
  pub writes-judged : {r : Result (Unit {0}) Refusal} {why : Refusal} {answer : Result ℕ Refusal} → r ≡ judged (broken_of_ten mask m) → r ≡ Err why →
      IsErrAnd answer (λ x. x ≡ why) → Writes mask stripped m out out answer
  writes-judged {r} {why} {answer} is e told =
      let p = err_from_is_err_and answer told in
      rw (p.1, p.2) (go (broken_of_ten mask m) refl (sym is ∙ e))
    where
      go : (rule : ℕ) → broken_of_ten mask m ≡ rule → judged rule ≡ Err why → Writes mask stripped m out out (Err why)
      go zero same e = let no : ◌≡◌ {A = Result (Unit {0}) Refusal} (Ok tt) (Err why) = e in absurd cc
      go (suc rule) same e =
          let these : ◌≡◌ {A = Result (Unit {0}) Refusal} (Err (Refusal.BadModel (suc rule))) (Err why) = e in
          let one : Refusal.BadModel (suc rule) ≡ why = cc in
          rw (← one) (writes-broken (suc rule) same (λ z. omega arith))

  -- too long
  pub writes-long : {size : ℕ} → broken_of_ten mask m ≡ 0 → size ≡ min (length (bytes_of stripped m)) 1048577 → 1048576 < size →
      Writes mask stripped m out out (Err (Refusal.BadModel 11))
  writes-long ten is h =
      let past : 1048576 < length (bytes_of stripped m) = omega (arith, is) in
      writes-by 11 (lowest mask stripped m 0 false ten (lt-leb _ _ past)) refl refl

  -- no room
  pub writes-none : {size : ℕ} → broken_of_ten mask m ≡ 0 → size ≡ min (length (bytes_of stripped m)) 1048577 → size ≤ 1048576 → length out < size →
      Writes mask stripped m out out (Err (Refusal.NoRoom size))
  writes-none {size} ten is short full =
      let all = whole stripped m size is short in
      let none = lt-leb _ _ (rw (← all) at full) in
      writes-by 0 (lowest mask stripped m 0 true ten (le-leb _ _ (rw (← all) at short))) (rw (none, all)) (rw none)

  -- the bytes are put
  pub writes-all : {size next : ℕ} {exit : List ℕ} → broken_of_ten mask m ≡ 0 → size ≡ min (length (bytes_of stripped m)) 1048577 → size ≤ 1048576 →
      size ≤ length out → Puts (bytes_of stripped m) (take size out) 0 exit next → Writes mask stripped m out (exit ++ drop size out) (Ok size)
  writes-all {size} ten is short fits p =
      let all = whole stripped m size is short in
      let long = rw (← all) at short in
      let room = rw (← all) at fits in
      writes-by 0 (lowest mask stripped m 0 true ten (le-leb _ _ long)) (rw (le-leb _ _ room, all))
      (rw (le-leb _ _ room, all) (ap (λ (l : List ℕ). l ++ drop size out) (all-put out size p all fits)))
