-- Fields of a fixed number of bytes: when they are taken, what they are worth, and the magic.
use Prim.Native.Nat.{ℕ, zero, suc, ◌+◌, ◌≤◌, ◌<◌}
use mathlib.Core.Path.{◌≡◌, refl, sym, ◌∙◌, ap}
use mathlib.Core.Bool.{Bool, true, false}
use mathlib.Core.List.{List, [], ◌∷◌}
use native.Mathlib.Omega.{arith}
use native.Mathlib.Numerals.{add-one}
use lib.ListN.{length, get_or}
use lib.Seq.{drop-cons}
use lib.Dec.{leb, eqb}
use lib.Pointwise.{pointwise}
use borrow.Author.Tests.{le-leb, lt-leb, leb-true}
use Rattle.std.specs.Prelude.{not, if◌then◌else◌}
use Rattle.std.specs.Int.{from_le_bytes, w16, w32, w64}
use Rattle.refusal.specs.declared.Refusal.{Refusal}
use Rattle.grammar.specs.declared.Cursor.{Cursor}
use Rattle.grammar.specs.Outcome.{advanced, got, refused}
use Rattle.grammar.specs.Combinators.{taking, low_first, fixed, text_at, text}
use Rattle.grammar.proofs.Outcome.{got-ne-refused, got-value, got-next}
use Rattle.format.specs.File.{magic, same_bytes}
use Rattle.sections.specs.Answers.{run}

module _ (n : ℕ) (s : List ℕ) (c : Cursor) where
  pub too_few : length s < c.at + n → taking n (run n) s c ≡ refused Refusal.Truncated
  unfolding taking
  too_few h = rw (lt-leb (c.at + n) (length s) h)

  pub all_there : c.at + n ≤ length s → taking n (run n) s c ≡ got (run n s c.at) (advanced c n)
  unfolding taking
  all_there h = rw (le-leb (c.at + n) (length s) h)

  -- whatever they are taken for
  record Taken {A : Type 0} (what : List ℕ → ℕ → A) (bytes : List ℕ) (next : Cursor) : Type 0 where
    within : c.at + n ≤ length s
    are : run n s c.at ≡ bytes
    is : taking n what s c ≡ got (what s c.at) next

  taken : {A : Type 0} (what : List ℕ → ℕ → A) {bytes : List ℕ} {next : Cursor} → taking n (run n) s c ≡ got bytes next → Taken what bytes next
  unfolding taking
  taken what {bytes} {next} e = go (leb (c.at + n) (length s)) refl e
    where
      go : (b : Bool) → leb (c.at + n) (length s) ≡ b → (if b then got (run n s c.at) (advanced c n) else refused Refusal.Truncated) ≡ got bytes next → Taken what bytes next
      go true is e = record { within = leb-true _ _ is; are = got-value e; is = rw is (ap (λ (k : Cursor). got (what s c.at) k) (got-next e)) }
      go false is e = absurd (got-ne-refused (sym e))

  not_taken : {A : Type 0} (what : List ℕ → ℕ → A) {r : Refusal} → taking n (run n) s c ≡ refused r → taking n what s c ≡ refused r
  unfolding taking
  not_taken what {r} e = go (leb (c.at + n) (length s)) e
    where
      go : (b : Bool) → (if b then got (run n s c.at) (advanced c n) else refused Refusal.Truncated) ≡ refused r → (if b then got (what s c.at) (advanced c n) else refused Refusal.Truncated) ≡ refused r
      go true e = absurd (got-ne-refused e)
      go false e = let why : Refusal.Truncated ≡ r = cc in ap (λ (k : Refusal). refused k) why

-- one by one
abbrev one_by_one : ℕ → List ℕ → ℕ → List ℕ
one_by_one zero s at = []
one_by_one (suc n) s at = get_or s at 0 ∷ one_by_one n s (at + 1)

run_one : (n : ℕ) (s : List ℕ) (at : ℕ) → at + n ≤ length s → run n s at ≡ one_by_one n s at
run_one zero s at h = refl
run_one (suc n) s at h = rw (drop-cons s at 0 (omega arith)) (ap (λ (l : List ℕ). get_or s at 0 ∷ l) (rw (← add-one at) (run_one n s (at + 1) (omega arith))))

module _ (s : List ℕ) (c : Cursor) {bytes : List ℕ} {next : Cursor} where
  pub fixed_two : taking 2 (run 2) s c ≡ got bytes next → fixed 2 s c ≡ got (from_le_bytes w16 bytes) next
  unfolding fixed
  fixed_two e =
      let t = taken 2 s c (low_first 2) e in
      let worth : low_first 2 s c.at ≡ from_le_bytes w16 (one_by_one 2 s c.at) = omega arith in
      rw (t.is, ← t.are, run_one 2 s c.at t.within, worth)

  pub fixed_four : taking 4 (run 4) s c ≡ got bytes next → fixed 4 s c ≡ got (from_le_bytes w32 bytes) next
  unfolding fixed
  fixed_four e =
      let t = taken 4 s c (low_first 4) e in
      let worth : low_first 4 s c.at ≡ from_le_bytes w32 (one_by_one 4 s c.at) = omega arith in
      rw (t.is, ← t.are, run_one 4 s c.at t.within, worth)

  pub fixed_eight : taking 8 (run 8) s c ≡ got bytes next → fixed 8 s c ≡ got (from_le_bytes w64 bytes) next
  unfolding fixed
  fixed_eight e =
      let t = taken 8 s c (low_first 8) e in
      let worth : low_first 8 s c.at ≡ from_le_bytes w64 (one_by_one 8 s c.at) = omega arith in
      rw (t.is, ← t.are, run_one 8 s c.at t.within, worth)

pub fixed_refused : (n : ℕ) (s : List ℕ) (c : Cursor) {r : Refusal} → taking n (run n) s c ≡ refused r → fixed n s c ≡ refused r
unfolding fixed
fixed_refused n s c e = not_taken n s c (low_first n) e

pub text_of : (n : ℕ) (s : List ℕ) (c : Cursor) {bytes : List ℕ} {next : Cursor} → taking n (run n) s c ≡ got bytes next →
    text n s c ≡ got (record { span = record { start = c.at; size = n }; bytes = bytes }) next
unfolding text
text_of n s c e = let t = taken n s c (λ s at. text_at s (record { start = at; size = n })) e in rw (t.is, ← t.are)

pub text_refused : (n : ℕ) (s : List ℕ) (c : Cursor) {r : Refusal} → taking n (run n) s c ≡ refused r → text n s c ≡ refused r
unfolding text
text_refused n s c e = not_taken n s c _ e

-- the test of the code on the magic is the definition's
same_pointwise : (a b : List ℕ) → same_bytes a b ≡ pointwise eqb a b
same_pointwise [] [] = refl
same_pointwise [] (y ∷ b) = refl
same_pointwise (x ∷ a) [] = refl
same_pointwise (x ∷ a) (y ∷ b) = rw (same_pointwise a b)

not_not : (b : Bool) → not (not b) ≡ b
not_not true = refl
not_not false = refl

pub magic_test : (bytes : List ℕ) {b : Bool} → b ≡ not (pointwise eqb bytes magic) → same_bytes bytes magic ≡ not b
magic_test bytes e = same_pointwise bytes magic ∙ sym (rw e (not_not (pointwise eqb bytes magic)))

pub ruleset fields = (fixed_two, fixed_four, fixed_eight, fixed_refused, text_of, text_refused)
