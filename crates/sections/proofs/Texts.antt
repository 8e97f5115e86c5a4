-- What was got of a run of bytes lies within the bytes, and is as long as its span says.
use Prim.Native.Nat.{ℕ, zero, suc, ◌+◌, ◌≤◌, ◌<◌}
use mathlib.Core.Path.{◌≡◌, refl, sym, ◌∙◌}
use mathlib.Core.Logic.{◌⊎◌, inl, inr, ⊎_elim}
use mathlib.Core.List.{List}
use native.Mathlib.Omega.{arith}
use lib.ListN.{length, length-take, length-drop}
use Rattle.grammar.specs.declared.Cursor.{Cursor}
use Rattle.grammar.specs.Outcome.{got}
use Rattle.grammar.specs.Combinators.{Text, text_at, text}
use Rattle.grammar.specs.Number.{number}
use Rattle.grammar.proofs.Outcome.{got-ne-refused, got-value, Twice, bind-got}
use Rattle.fields.proofs.Runs.{too_few, enough-there}
use Rattle.format.specs.File.{bytes}

pub record Run (s : List ℕ) (t : Text) : Type 0 where
  pub within : t.span.start + t.span.size ≤ length s
  pub whole : length t.bytes ≡ t.span.size

le-or-lt : (a b : ℕ) → (a ≤ b) ⊎ (b < a)
le-or-lt zero b = inl (omega arith)
le-or-lt (suc a) zero = inr (omega arith)
le-or-lt (suc a) (suc b) = ⊎_elim (λ h. inl (omega arith)) (λ h. inr (omega arith)) (le-or-lt a b)

run_at : (s : List ℕ) (start size : ℕ) → start + size ≤ length s → Run s (text_at s (record { start = start; size = size }))
run_at s start size h = record { within = h; whole = simp (length-take, length-drop) (omega arith) }

pub text-run : (n : ℕ) (s : List ℕ) (c : Cursor) (t : Text) (next : Cursor) → text n s c ≡ got t next → Run s t × (t.span.size ≡ n)
text-run n s c t next e = ⊎_elim there past (le-or-lt (c.at + n) (length s))
  where
    there : c.at + n ≤ length s → Run s t × (t.span.size ≡ n)
    there h =
        let same : text_at s (record { start = c.at; size = n }) ≡ t = got-value (sym (enough-there n s c h) ∙ e) in
        rw (← same) (run_at s c.at n h, refl)

    past : length s < c.at + n → Run s t × (t.span.size ≡ n)
    past h = absurd (got-ne-refused (sym e ∙ too_few n s c h))

pub bytes_run : (s : List ℕ) (c : Cursor) (t : Text) (next : Cursor) → bytes s c ≡ got t next → Run s t
unfolding bytes
bytes_run s c t next e =
    let twice : Twice (number 64) text s c t next = bind-got (number 64) text s c t next e in
    (text-run twice.value s twice.next t next twice.second).0
