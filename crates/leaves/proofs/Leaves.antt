-- What a parser gives of some bytes always has: a law that composes, as the prefix law does.
use Rattle.std.proofs.Common.{if◌then◌else◌}
use Prim.Native.Nat.{ℕ, zero, suc, ◌<◌}
use mathlib.Core.Path.{◌≡◌, refl, sym}
use mathlib.Core.Bool.{Bool, true, false}
use mathlib.Core.List.{List, foldl}
use lib.Dec.{eqb}
use Rattle.refusal.specs.declared.Refusal.{Refusal}
use Rattle.refusal.specs.declared.Place.{Place}
use Rattle.grammar.specs.declared.Cursor.{Cursor}
use Rattle.grammar.specs.Outcome.{got, Parser, pure, refuse, ◌>>=◌, ◌>>◌}
use Rattle.grammar.specs.Combinators.{check, room, ◌⇒◌∣◌, unknown, many, Each}
use Rattle.grammar.proofs.Outcome.{got-ne-refused, got-value, bind-got}
use Rattle.tables.proofs.Fitting.{many-keeps, had-place}

pub record Leaves {A : Type 0} (s : List ℕ) (p : Parser A) (Ok : A → Type 0) : Type 0 where
  pub always : (c : Cursor) (v : A) (next : Cursor) → p s c ≡ got v next → Ok v

module _ {s : List ℕ} where
  pub leaves-pure : {A : Type 0} {Ok : A → Type 0} (v : A) → Ok v → Leaves s (pure v) Ok
  unfolding pure
  leaves-pure {Ok = Ok} v ok = record { always = λ c w next e. rw (← got-value e) ok }

  pub leaves-refuse : {A : Type 0} {Ok : A → Type 0} (r : Refusal) → Leaves s (refuse r) Ok
  unfolding refuse
  leaves-refuse r = record { always = λ c w next e. absurd (got-ne-refused (sym e)) }

  -- one behind the other, with what the first gave
  pub leaves-then : {A B : Type 0} {p : Parser A} (f : A → Parser B) {First : A → Type 0} {Ok : B → Type 0} → Leaves s p First →
      ((a : A) → First a → Leaves s (f a) Ok) → Leaves s (p >>= f) Ok
  leaves-then {p = p} f first rest =
      record {
        always = λ c w last e.
            let twice = bind-got p f s c w last e in
            (rest twice.value (first.always c twice.value twice.next twice.first)).always twice.next w last twice.second;
      }

  -- whatever the first gave
  pub leaves-bind : {A B : Type 0} (p : Parser A) (f : A → Parser B) {Ok : B → Type 0} → ((a : A) → Leaves s (f a) Ok) → Leaves s (p >>= f) Ok
  leaves-bind p f rest = leaves-then f {First = λ _. Unit} (record { always = λ c v next e. tt }) (λ a _. rest a)

  -- behind a test that passed
  pub leaves-check : {B : Type 0} (t : Bool) (r : Refusal) (f : Unit → Parser B) {Ok : B → Type 0} → (t ≡ true → Leaves s (f tt) Ok) →
      Leaves s (check t r >>= f) Ok
  unfolding check
  leaves-check true r f rest = leaves-bind _ _ (λ _. rest refl)
  leaves-check false r f rest = leaves-then f {First = λ _. ⊥} (leaves-refuse r) (λ _ no. absurd no)

  -- a record behind the test for a free place
  pub leaves-room : {A : Type 0} (table places used : ℕ) {p : Parser A} {Ok : A → Type 0} → (used < places → Leaves s p Ok) → Leaves s (room table places used >> p) Ok
  leaves-room table places used {p} rest =
      record {
        always = λ c v next e.
            let had = had-place table places used p s c v next e in
            (rest had.0).always c v next had.1;
      }

  pub leaves-tag : {A : Type 0} (k : ℕ) {p : Parser A} (others : ℕ → Parser A) (tag : ℕ) {Ok : A → Type 0} → Leaves s p Ok → Leaves s (others tag) Ok →
      Leaves s ((k ⇒ p ∣ others) tag) Ok
  unfolding ◌⇒◌∣◌
  leaves-tag k {p} others tag {Ok} here there = go (eqb tag k)
    where
      go : (t : Bool) → Leaves s (if t then p else others tag) Ok
      go true = here
      go false = there

  pub leaves-unknown : {A : Type 0} (place : Place) (tag : ℕ) {Ok : A → Type 0} → Leaves s (unknown place tag) Ok
  unfolding unknown
  leaves-unknown place tag = leaves-refuse _

  -- what each record keeps of the places used, a list keeps
  pub leaves-many : {A S : Type 0} (next : S → A → S) {p : S → Parser A} (Ok : S → Type 0) →
      ((used : S) → Ok used → Leaves s (p used) (λ x. Ok (next used x))) → (n : ℕ) (used : S) → Ok used → Leaves s (many next p n used) (λ xs. Ok (foldl next used xs))
  leaves-many next {p} Ok one n used ok =
      record { always = λ c xs last e. many-keeps next p Ok s (λ used c x later ok e. (one used ok).always c x later e) n used c xs last ok e }

  -- what every record has, each of a list has
  pub leaves-each : {A S : Type 0} (next : S → A → S) {p : S → Parser A} {Ok : A → Type 0} → ((used : S) → Leaves s (p used) Ok) →
      (n : ℕ) (used : S) → Leaves s (many next p n used) (Each Ok)
  unfolding many
  leaves-each next one zero used = leaves-pure _ tt
  leaves-each next one (suc n) used =
      leaves-then _ (one used) (λ x ok. leaves-then _ (leaves-each next one n (next used x)) (λ xs oks. leaves-pure _ (ok, oks)))
