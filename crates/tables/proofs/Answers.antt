-- What an answer says of a list that was read into a table: the records, how many, and where they stand.
use Prim.Native.Nat.{ℕ, ◌+◌, ◌*◌}
use mathlib.Core.Path.{◌≡◌, refl, ◌∙◌, ap}
use mathlib.Core.List.{List}
use native.Mathlib.Omega.{arith}
use lib.ListN.{length}
use lib.Seq.{sets}
use Rattle.refusal.specs.declared.Refusal.{Refusal}
use Rattle.grammar.specs.declared.Cursor.{Cursor}
use Rattle.grammar.specs.Outcome.{Outcome, got, refused}
use Rattle.std.proofs.Common.{Result, Ok, Err}
use Rattle.grammar.specs.Read.{answer}
use Rattle.tables.specs.Table.{rows, used_behind, Left}

pub record GotList {A : Type 0} (o : Outcome (List A)) (row : A → List ℕ) (width from : ℕ) (entry exit : List ℕ) (used : ℕ) (next : Cursor) : Type 0 where
  pub all : List A
  pub is : o ≡ got all next
  pub counts : used ≡ from + length all
  pub table : exit ≡ sets entry (from * width) (rows row all)

module _ {A : Type 0} {o : Outcome (List A)} {row : A → List ℕ} {width from : ℕ} {entry exit : List ℕ} {r : Result (ℕ × Cursor) Refusal} where
  pub left-got : Left o row width from entry exit r → {used : ℕ} {next : Cursor} → r ≡ Ok (used, next) →
      GotList o row width from entry exit used next
  left-got l {used} {next} e = go o refl (l.result ∙ ap answer e)
    where
      go : (p : Outcome (List A)) → o ≡ p → used_behind from p ≡ got used next → GotList o row width from entry exit used next
      go (got xs last) is same =
          let here : last ≡ next = cc in
          record { all = xs; is = is ∙ ap (λ k. got xs k) here; counts = cc; table = l.table xs last is }
      go (refused r) is same = let z : ◌≡◌ {A = ℕ} 0 1 = cc in absurd (omega arith)

  pub left-no-more : Left o row width from entry exit r → {why : Refusal} → r ≡ Err why → o ≡ refused why
  left-no-more l {why} e = go o refl (l.result ∙ ap answer e)
    where
      go : (p : Outcome (List A)) → o ≡ p → used_behind from p ≡ refused why → o ≡ refused why
      go (got xs last) is same = let z : ◌≡◌ {A = ℕ} 0 1 = cc in absurd (omega arith)
      go (refused q) is same = let same_one : q ≡ why = cc in is ∙ ap (λ k. refused k) same_one
