-- What a call of `writing::write` that wrote something says, by its contract.
use Rattle.std.proofs.Common.{if◌then◌else◌}
use Prim.Native.Nat.{ℕ, zero, suc}
use mathlib.Core.Bool.{Bool, true, false}
use mathlib.Core.Path.{◌≡◌, refl}
use mathlib.Core.List.{List, ◌++◌}
use native.Mathlib.Omega.{arith}
use borrow.Author.Tests.{leb-true}
use lib.Dec.{leb}
use lib.ListN.{length, drop}
use lib.Seq.{take-append_seam}
use Rattle.refusal.specs.declared.Refusal.{Refusal}
use Rattle.std.specs.Prelude.{Result, Ok, Err}
use Rattle.model.specs.Lent.{Lent}
use Rattle.model.specs.Written.{broken_of_ten, rule11, else_eleven, lowest_broken, bytes_of, roomed, in_front, answered, left}
use Rattle.rewriting.specs.Words.{Wrote, Sound}

done_refused : {n : ℕ} {r : Refusal} → Ok n ≡ Err r → ⊥
done_refused e = let z : ◌≡◌ {A = ℕ} 0 1 = cc in omega arith

-- no rule is broken: none of the ten, and not the eleventh
record NoneOfEleven (broken : ℕ) (holds : Bool) : Type 0 where
  ten : broken ≡ 0
  eleven : holds ≡ true

none-of-eleven : (broken : ℕ) (holds : Bool) → else_eleven broken holds ≡ 0 → NoneOfEleven broken holds
none-of-eleven zero true e = record { ten = refl; eleven = refl }
none-of-eleven zero false e = absurd (omega arith)
none-of-eleven (suc rule) holds e = absurd (omega arith)

-- where there was room, the bytes stand in front
record Stored (bytes entry exit : List ℕ) (n : ℕ) : Type 0 where
  size : n ≡ length bytes
  front : exit ≡ bytes ++ drop (length bytes) entry

stored : (bytes entry exit : List ℕ) {n : ℕ} → Ok n ≡ roomed bytes entry → exit ≡ in_front bytes entry → Stored bytes entry exit n
stored bytes entry exit {n} = go (leb (length bytes) (length entry))
  where
    go : (room : Bool) → Ok n ≡ (if room then Ok (length bytes) else Err (Refusal.NoRoom (length bytes))) →
        exit ≡ (if room then bytes ++ drop (length bytes) entry else entry) → Stored bytes entry exit n
    go true e f = record { size = cc; front = f }
    go false e f = absurd (done_refused e)

record Clear (broken : ℕ) (bytes entry exit : List ℕ) (n : ℕ) : Type 0 where
  none : broken ≡ 0
  kept : Stored bytes entry exit n

clear : (broken : ℕ) (bytes entry exit : List ℕ) {n : ℕ} → Ok n ≡ answered broken bytes entry → exit ≡ left broken bytes entry →
    Clear broken bytes entry exit n
clear zero bytes entry exit e f = record { none = refl; kept = stored bytes entry exit e f }
clear (suc rule) bytes entry exit e f = absurd (done_refused e)

pub sound : {mask : ℕ} {stripped : Bool} {m : Lent} {n : ℕ} (call : Wrote mask stripped m n) → Sound call
unfolding lowest_broken
sound {mask} {stripped} {m} {n} call =
    let c = clear (lowest_broken mask stripped m) (bytes_of stripped m) call.entry call.exit call.contract.result call.contract.output in
    let none = none-of-eleven (broken_of_ten mask m) (rule11 stripped m) c.none in
    record {
      rules = none.ten;
      size = c.kept.size;
      short = leb-true _ _ none.eleven;
      bytes = rw (c.kept.front, c.kept.size) (take-append_seam (bytes_of stripped m) (drop (length (bytes_of stripped m)) call.entry));
    }
