-- What a read gives of constants is well-formed, each one level deeper by the same law.
use Prim.Native.Nat.{ℕ, zero, suc, ◌+◌, ◌≤◌, ◌<◌}
use mathlib.Core.List.{List, map}
use native.Mathlib.Omega.{arith}
use Rattle.grammar.specs.Combinators.{Text, many}
use Rattle.format.specs.Artifact as A
use Rattle.format.specs.File as definition
use Rattle.leaves.proofs.Leaves.{Leaves, leaves-pure, leaves-refuse, leaves-then, leaves-bind, leaves-check, leaves-room, leaves-tag, leaves-unknown}
use Rattle.rows.specs.Given.{Bytes}
use Rattle.stored.proofs.Fitting.{leaves-number, leaves_signed}
use Rattle.written.specs.Meaning.{mean_constant}
use Rattle.written.specs.WellFormed.{WellKind, WellConstant, WellConstants}
use Rattle.written.proofs.Lists.{all_same}
use Rattle.written.proofs.Constants.{mean_entry, behind, behind_text, WellEntry, read_entry, behind-same}
use Rattle.written.proofs.Leaving.{leaves-fixed, leaves-bytes, leaves-string, Records, leaves-many, counted-as}

leaves-kind : {s : List ℕ} → Leaves s definition.kind WellKind
unfolding definition.kind
leaves-kind =
    leaves-bind _ _ (λ tag. leaves-tag _ _ _ (leaves-pure _ tt)
    (leaves-tag _ _ _ (leaves-then _ (leaves-number 64) (λ n h. leaves-pure _ h)) (leaves-unknown _ _)))

one_more_lem : {used places : ℕ} → used < places → used + 1 ≤ places
one_more_lem free = omega arith

-- a constant: well-formed, and its places are there
abbrev Kept : (places levels used : ℕ) → A.Constant Text levels → Type 0
Kept places levels used c = WellConstant levels (mean_constant levels c) × (A.behind Text levels used c ≤ places)

module _ {s : List ℕ} (bytes : Bytes s) (places levels : ℕ) (deeper : (used : ℕ) → used ≤ places → Leaves s (definition.constant places levels used) (Kept places levels used)) where
  abbrev Room : ℕ → Type 0
  Room used = used ≤ places

  leaves-items : (n used : ℕ) → used ≤ places →
      Leaves s (many (A.behind Text levels) (definition.constant places levels) n used) (Records (mean_constant levels) (A.behind Text levels) (WellConstant levels) Room n used)
  leaves-items n used r = leaves-many (mean_constant levels) (A.behind Text levels) (WellConstant levels) Room deeper n used r

  leaves-entry : (used : ℕ) → Room used → Leaves s (read_entry places levels used) (λ entry. WellEntry levels (mean_entry levels entry) × Room (behind_text levels used entry))
  leaves-entry used r = leaves-then _ leaves-string (λ key a. leaves-then _ (deeper used r) (λ value b. leaves-pure _ ((a, b.0), b.1)))

  leaves-entries : (n used : ℕ) → used ≤ places → Leaves s (many (behind_text levels) (read_entry places levels) n used) (Records (mean_entry levels) (behind_text levels) (WellEntry levels) Room n used)
  leaves-entries n used r = leaves-many (mean_entry levels) (behind_text levels) (WellEntry levels) Room leaves-entry n used r

  leaves-one : (used : ℕ) → used ≤ places → Leaves s (definition.constant places (suc levels) used) (Kept places (suc levels) used)
  unfolding definition.constant
  leaves-one used r =
      leaves-room _ _ _ (λ free.
      leaves-bind _ _ (λ tag.
      leaves-tag _ _ _ (leaves-pure _ (tt, one_more_lem free))
      (leaves-tag _ _ _ (leaves-pure _ (tt, one_more_lem free))
      (leaves-tag _ _ _ (leaves-pure _ (tt, one_more_lem free))
      (leaves-tag _ _ _ (leaves-then _ leaves_signed (λ n h. leaves-pure _ (h, one_more_lem free)))
      (leaves-tag _ _ _ (leaves-then _ (leaves-fixed bytes 8) (λ bits h. leaves-pure _ (record { below = omega (arith, h) }, one_more_lem free)))
      (leaves-tag _ _ _ (leaves-bind _ _ (λ code. leaves-check _ _ _ (λ e. leaves-pure _ (e, one_more_lem free))))
      (leaves-tag _ _ _ (leaves-then _ leaves-string (λ t h. leaves-pure _ (h, one_more_lem free)))
      (leaves-tag _ _ _ (leaves-then _ (leaves-number 64) (λ n h. leaves-then _ (leaves-items n (used + 1) (one_more_lem free)) (λ xs w.
      leaves-pure _ ((counted-as _ xs w.count h.below, w.each), w.behind))))
      (leaves-tag _ _ _ (leaves-then _ (leaves-number 64) (λ n h. leaves-then _ (leaves-entries n (used + 1) (one_more_lem free)) (λ xs w.
      leaves-pure _ ((counted-as _ xs w.count h.below, w.each), w.behind))))
      (leaves-tag _ _ _ (leaves-then _ leaves-bytes (λ t taken. leaves-pure _ (taken.counted, one_more_lem free)))
      (leaves-tag _ _ _ (leaves-then _ leaves_signed (λ from a. leaves-then _ leaves_signed (λ to b. leaves-pure _ ((a, b), one_more_lem free))))
      (leaves-tag _ _ _ (leaves-then _ leaves_signed (λ from a. leaves-then _ leaves_signed (λ to b. leaves-pure _ ((a, b), one_more_lem free))))
      (leaves-tag _ _ _ (leaves-then _ leaves-string (λ name a. leaves-then _ (leaves-number 64) (λ n h. leaves-then _ (leaves-items n (used + 1) (one_more_lem free)) (λ xs w.
      leaves-then _ leaves-kind (λ k b. leaves-pure _ ((a, ((counted-as _ xs w.count h.below, w.each), b)), w.behind))))))
      (leaves-unknown _ _)))))))))))))))

leaves-constant : {s : List ℕ} → Bytes s → (places levels used : ℕ) → used ≤ places → Leaves s (definition.constant places levels used) (Kept places levels used)
unfolding definition.constant
leaves-constant bytes places zero used r = leaves-refuse _
leaves-constant bytes places (suc levels) used r = leaves-one bytes places levels (leaves-constant bytes places levels) used r

pub leaves-constants : {s : List ℕ} → Bytes s → (places : ℕ) → Leaves s (definition.constants places) (λ cs. WellConstants places (map (mean_constant A.levels) cs))
unfolding definition.constants
leaves-constants bytes places =
    leaves-then _ (leaves-number 64) (λ n h. record {
      always = λ c cs last e.
          let w = (leaves-items bytes places A.levels (leaves-constant bytes places A.levels) n 0 (omega arith)).always c cs last e in
          record {
            counted = counted-as _ cs w.count h.below;
            room = rw (← all_same (mean_constant A.levels) (A.behind Text A.levels) (behind A.levels) (behind-same A.levels) cs 0) w.behind;
            each = w.each;
          };
    })
