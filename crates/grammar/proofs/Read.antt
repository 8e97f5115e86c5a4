-- What a read in the code answers where a read within it was refused: the same refusal.
use Rattle.std.proofs.Common.{◌≡◌, ℕ, Bool, true, false, List, Result, Ok, Err, refl}
use Rattle.std.specs.Result.{IsErrAnd}
use Rattle.std.proofs.lemmas.Result.{err_from_is_err_and}
use Rattle.refusal.specs.declared.Refusal.{Refusal}
use Rattle.grammar.specs.declared.Cursor.{Cursor}
use Rattle.grammar.specs.Outcome.{Outcome, Parser, got, refused, pure, refuse, ◌>>=◌}
use Rattle.grammar.specs.Combinators.{check}
use Rattle.grammar.specs.Read.{answer_as}

pub answer_refused : {A B : Type 0} (f : A → B) (r : Result (A × Cursor) Refusal) (e : Refusal) → IsErrAnd r (λ x. x ≡ e) → answer_as f r ≡ refused e
answer_refused f r e is = let p = err_from_is_err_and r is in rw (p.1, p.2)

-- one read after another
pub bind_got : {A B : Type 0} (p : Parser A) (f : A → Parser B) (s : List ℕ) (c : Cursor) {v : A} {next : Cursor} → p s c ≡ got v next → (p >>= f) s c ≡ f v s next
unfolding ◌>>=◌
bind_got p f s c is = rw is

pub bind_refused : {A B : Type 0} (p : Parser A) (f : A → Parser B) (s : List ℕ) (c : Cursor) {r : Refusal} → p s c ≡ refused r → (p >>= f) s c ≡ refused r
unfolding ◌>>=◌
bind_refused p f s c is = rw is

pub pure_is : {A : Type 0} (v : A) (s : List ℕ) (c : Cursor) → pure v s c ≡ got v c
unfolding pure
pure_is v s c = refl

-- a test that takes nothing
pub check_passed : {A : Type 0} (b : Bool) (e : Refusal) (f : Unit {0} → Parser A) (s : List ℕ) (c : Cursor) → b ≡ true → (check b e >>= f) s c ≡ f tt s c
unfolding check pure ◌>>=◌
check_passed b e f s c is = rw is

pub check_refused : {A : Type 0} (b : Bool) (e : Refusal) (f : Unit {0} → Parser A) (s : List ℕ) (c : Cursor) → b ≡ false → (check b e >>= f) s c ≡ refused e
unfolding check refuse ◌>>=◌
check_refused b e f s c is = rw is

pub ruleset reads = (bind_got, bind_refused, pure_is, check_passed, check_refused, answer_refused)

-- ── an answer that tells f of what the definition reads ──

pub record Got {A : Type 0} (o : Outcome A) (next : Cursor) (Fact : A → Type 0) : Type 0 where
  pub value : A
  pub is : o ≡ got value next
  pub fact : Fact value

abbrev pub told : {A K : Type 0} → (A → K) → Outcome A → Outcome K
told f (got v next) = got (f v) next
told f (refused r) = refused r

module _ {A K T : Type 0} (f : A → K) (g : T → K) where
  pub told_got : (o : Outcome A) {r : Result (T × Cursor) Refusal} {v : T} {next : Cursor} → told f o ≡ answer_as g r → r ≡ Ok (v, next) → Got o next (λ a. f a ≡ g v)
  told_got (got a last) {r} {v} {next} e is =
      let same : ◌≡◌ {A = Outcome K} (got (f a) last) (got (g v) next) = rw is at e in
      record { value = a; is = cc; fact = cc }
  told_got (refused q) {r} {v} {next} e is = let no : ◌≡◌ {A = Outcome K} (refused q) (got (g v) next) = rw is at e in cc

  pub told_refused : (o : Outcome A) {r : Result (T × Cursor) Refusal} {why : Refusal} → told f o ≡ answer_as g r → r ≡ Err why → o ≡ refused why
  told_refused (got a last) {r} {why} e is = let no : ◌≡◌ {A = Outcome K} (got (f a) last) (refused why) = rw is at e in cc
  told_refused (refused q) {r} {why} e is = let same : ◌≡◌ {A = Outcome K} (refused q) (refused why) = rw is at e in cc
