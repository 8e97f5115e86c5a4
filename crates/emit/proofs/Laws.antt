-- The laws of `Puts`: what is put where it fits, and one thing behind another.
use Prim.Native.Nat.{ℕ, ◌+◌, ◌≤◌, ◌<◌}
use mathlib.Core.Path.{◌≡◌, refl, sym, ◌∙◌, ap}
use mathlib.Core.List.{List, [], ◌++◌, append_assoc, append-nil}
use native.Mathlib.Nat.{add-zero}
use native.Mathlib.Omega.{arith}
use lib.ListN.{length, take, drop, length-append, length-drop}
use Rattle.std.proofs.Common.{take-take}
use Rattle.std.proofs.lemmas.Slice.{take-put_mid}
use borrow.Rule.Slice.PartMut.{put_mid, same_len_mid}
use lib.Seq.{sets, sets-eq, length-sets, length-take-le, take_at}
use Rattle.emit.specs.Puts.{Puts}

pub puts_none : {e : List ℕ} {at : ℕ} → Puts [] e at e at
puts_none {e} {at} =
    record { kept = refl; next = λ _. sym (add-zero at); stored = λ _. rw (add-zero at) (sym (append-nil (take at e))) }

-- where the bytes do not fit nothing is touched
pub puts-nowhere : {bytes e : List ℕ} {at next : ℕ} → length e < at + length bytes → Puts bytes e at e next
puts-nowhere full = record { kept = refl; next = λ fits. absurd (omega arith); stored = λ fits. absurd (omega arith) }

-- the bytes are stored
pub puts-stored : {bytes e exit : List ℕ} {at next : ℕ} → exit ≡ sets e at bytes → next ≡ at + length bytes → Puts bytes e at exit next
puts-stored {bytes} {e} {exit} {at} is here =
    record {
      kept = ap length is ∙ length-sets e at bytes;
      next = λ _. here;
      stored = λ fits. ap (take (at + length bytes)) (is ∙ sets-eq bytes e at fits)
          ∙ take_at (take at e ++ bytes) (drop (at + length bytes) e) (at + length bytes) (front fits);
    }
  where
    front : at + length bytes ≤ length e → length (take at e ++ bytes) ≡ at + length bytes
    front fits = length-append (take at e) bytes ∙ ap (λ (k : ℕ). k + length bytes) (length-take-le at e (omega arith))

-- a part is stored, and the bytes stand in front of it
pub puts-part : (bytes more : List ℕ) {e part : List ℕ} {at k next : ℕ} → part ≡ bytes ++ more → length part ≡ k → at + k ≤ length e →
    next ≡ at + length bytes → Puts bytes e at (put_mid at k e part) next
puts-part bytes more {e} {part} {at} {k} is long fits here =
    let inside : at + length bytes ≤ at + k = omega (arith, ap length is, length-append bytes more) in
    let front : length (take at e ++ bytes) ≡ at + length bytes = length-append (take at e) bytes ∙ ap (λ (n : ℕ). n + length bytes) (length-take-le at e (omega arith)) in
    let all : take (at + k) (put_mid at k e part) ≡ (take at e ++ bytes) ++ more =
    take-put_mid at k e part (at + k) (omega arith) (omega arith) ∙ ap (λ (l : List ℕ). take at e ++ l) is ∙ sym (append_assoc (take at e) bytes more) in
    record {
      kept = same_len_mid at k e part (omega (arith, length-take-le k (drop at e) (omega (arith, length-drop at e))));
      next = λ _. here;
      stored = λ _. sym (take-take (at + length bytes) (at + k) (put_mid at k e part) inside) ∙ ap (take (at + length bytes)) all
          ∙ take_at (take at e ++ bytes) more (at + length bytes) front;
    }

pub puts-same : {a b e x : List ℕ} {at next : ℕ} → a ≡ b → Puts a e at x next → Puts b e at x next
puts-same same p = rw (← same) p

-- one thing behind another
module _ {a b e m x : List ℕ} {at mid next : ℕ} (p : Puts a e at m mid) (q : Puts b m mid x next) where
  last : at + length (a ++ b) ≤ length e → mid + length b ≡ at + length (a ++ b)
  last fits = let sum = length-append a b in let first : mid ≡ at + length a = p.next (omega arith) in omega arith

  room : at + length (a ++ b) ≤ length e → mid + length b ≤ length m
  room fits = omega (arith, last fits, p.kept)

  behind-first : at + length (a ++ b) ≤ length e → take mid m ++ b ≡ take at e ++ (a ++ b)
  behind-first fits =
      let sum = length-append a b in
      let fits₁ : at + length a ≤ length e = omega arith in
      ap (λ (k : ℕ). take k m ++ b) (p.next fits₁) ∙ ap (λ (l : List ℕ). l ++ b) (p.stored fits₁) ∙ append_assoc (take at e) a b

  pub puts_then : Puts (a ++ b) e at x next
  puts_then =
      record {
        kept = q.kept ∙ p.kept;
        next = λ fits. q.next (room fits) ∙ last fits;
        stored = λ fits. ap (λ (k : ℕ). take k x) (sym (last fits)) ∙ q.stored (room fits) ∙ behind-first fits;
      }

-- what is still to put comes to what was to put
pub record Onward (all e : List ℕ) (at : ℕ) (rest out : List ℕ) (place : ℕ) : Type 0 where
  pub same : length out ≡ length e
  pub onward : {x : List ℕ} {next : ℕ} → Puts rest out place x next → Puts all e at x next

pub onward-none : {all out : List ℕ} {place : ℕ} → Onward all out place all out place
onward-none = record { same = refl; onward = λ q. q }

module _ {all e rest out : List ℕ} {at place : ℕ} where
  pub onward-more : {a x : List ℕ} {next : ℕ} → Onward all e at (a ++ rest) out place → Puts a out place x next → Onward all e at rest x next
  onward-more g p = record { same = p.kept ∙ g.same; onward = λ q. g.onward (puts_then p q) }

pub onward-done : {all e out : List ℕ} {at place : ℕ} → Onward all e at [] out place → Puts all e at out place
onward-done g = g.onward puts_none
