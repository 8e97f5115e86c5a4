-- What an outcome says: something was got or refused, and never both; and what was got after two reads.
use Prim.Native.Nat.{ℕ}
use mathlib.Core.Path.{◌≡◌, refl, sym}
use mathlib.Core.List.{List}
use native.Mathlib.Omega.{arith}
use Rattle.refusal.specs.declared.Refusal.{Refusal}
use Rattle.grammar.specs.declared.Cursor.{Cursor}
use Rattle.grammar.specs.Outcome.{Outcome, got, refused, Parser, after, ◌>>=◌}

pub got-ne-refused : {A : Type 0} {v : A} {next : Cursor} {r : Refusal} → got v next ≡ refused r → ⊥
got-ne-refused e = let z : ◌≡◌ {A = ℕ} 0 1 = cc in omega arith

pub got-value : {A : Type 0} {v w : A} {a b : Cursor} → got v a ≡ got w b → v ≡ w
got-value e = cc

pub got-next : {A : Type 0} {v w : A} {a b : Cursor} → got v a ≡ got w b → a ≡ b
got-next e = cc

-- what was got after two reads, one after the other
pub record Twice {A B : Type 0} (p : Parser A) (f : A → Parser B) (s : List ℕ) (c : Cursor) (w : B) (last : Cursor) : Type 0 where
  pub value : A
  pub next : Cursor
  pub first : p s c ≡ got value next
  pub second : f value s next ≡ got w last

pub bind-got : {A B : Type 0} (p : Parser A) (f : A → Parser B) (s : List ℕ) (c : Cursor) (w : B) (last : Cursor) →
    (p >>= f) s c ≡ got w last → Twice p f s c w last
unfolding ◌>>=◌
bind-got {A} {B} p f s c w last e = go (p s c) refl e
  where
    go : (o : Outcome A) → p s c ≡ o → after o (λ v next. f v s next) ≡ got w last → Twice p f s c w last
    go (got v next) is e = record { value = v; next = next; first = is; second = e }
    go (refused r) is e = absurd (got-ne-refused (sym e))
