-- What was got or refused, as the contract of a read into the table has it.
use Prim.Native.Nat.{ℕ}
use mathlib.Core.Path.{◌≡◌, refl, sym, ◌∙◌, ap}
use mathlib.Core.List.{List}
use lib.Seq.{sets}
use Rattle.std.proofs.Common.{Result, Ok, Err}
use Rattle.std.specs.Result.{IsErrAnd}
use Rattle.std.proofs.lemmas.Result.{err_from_is_err_and}
use Rattle.refusal.specs.declared.Refusal.{Refusal}
use Rattle.grammar.specs.declared.Cursor.{Cursor}
use Rattle.grammar.specs.Outcome.{Outcome, got, refused}
use Rattle.grammar.proofs.Outcome.{got-ne-refused, got-value, got-next}
use Rattle.constants.specs.Kept.{places_behind, Kept}

abbrev pub Answer : Type 0
Answer = Result (ℕ × Cursor) Refusal

pub kept-got : {A : Type 0} {o : Outcome A} {behind : A → ℕ} {words : A → List ℕ} {at : ℕ} {entry exit : List ℕ} {v : A} {next : Cursor} {k : ℕ} →
    o ≡ got v next → behind v ≡ k → exit ≡ sets entry at (words v) → Kept o behind words at entry exit (Ok (k, next))
kept-got {words = words} {at} {entry} {v = v} {next} e b t =
    record {
      result = rw (e, b);
      table = λ w last is. t ∙ ap (λ x. sets entry at (words x)) (got-value (sym e ∙ is));
    }

pub kept-refused : {A : Type 0} {o : Outcome A} {behind : A → ℕ} {words : A → List ℕ} {at : ℕ} {entry exit : List ℕ} {r : Refusal} →
    o ≡ refused r → Kept o behind words at entry exit (Err r)
kept-refused e = record { result = rw e; table = λ w last is. absurd (got-ne-refused (sym is ∙ e)) }

-- an answer that is some refusal is told as that refusal
pub kept_err : {A : Type 0} {o : Outcome A} {behind : A → ℕ} {words : A → List ℕ} {at : ℕ} {entry exit : List ℕ} {e : Refusal} {read : Answer} →
    Kept o behind words at entry exit (Err e) → IsErrAnd read (λ x. x ≡ e) → Kept o behind words at entry exit read
kept_err {read = read} k is = let p = err_from_is_err_and read is in rw (p.1, p.2) k

-- and back: what the contract says was got
pub record Out {A : Type 0} (o : Outcome A) (behind : A → ℕ) (words : A → List ℕ) (at : ℕ) (entry exit : List ℕ) (k : ℕ) (next : Cursor) : Type 0 where
  pub value : A
  pub is : o ≡ got value next
  pub ends : behind value ≡ k
  pub stored : exit ≡ sets entry at (words value)

pub kept_out : {A : Type 0} {o : Outcome A} {behind : A → ℕ} {words : A → List ℕ} {at : ℕ} {entry exit : List ℕ} {k : ℕ} {next : Cursor} →
    Kept o behind words at entry exit (Ok (k, next)) → Out o behind words at entry exit k next
kept_out {A} {o} {behind} {words} {at} {entry} {exit} {k} {next} h = go o refl h.result
  where
    go : (x : Outcome A) → o ≡ x → places_behind behind x ≡ got k next → Out o behind words at entry exit k next
    go (got v last) is e =
        let same : o ≡ got v next = is ∙ ap (got v) (got-next e) in
        record { value = v; is = same; ends = got-value e; stored = h.table v next same }
    go (refused r) is e = absurd (got-ne-refused (sym e))

pub kept-no : {A : Type 0} {o : Outcome A} {behind : A → ℕ} {words : A → List ℕ} {at : ℕ} {entry exit : List ℕ} {r : Refusal} →
    Kept o behind words at entry exit (Err r) → o ≡ refused r
kept-no {A} {o} {behind} {r = r} h = go o refl h.result
  where
    go : (x : Outcome A) → o ≡ x → places_behind behind x ≡ refused r → o ≡ refused r
    go (got v last) is e = absurd (got-ne-refused e)
    go (refused k) is e = let same : k ≡ r = cc in is ∙ ap refused same
