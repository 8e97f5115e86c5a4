-- Torn copies, by the definition of the file: every shorter front of an accepted artifact is Truncated, and n more bytes behind it are TrailingBytes n.
use Rattle.std.proofs.Common.{if◌then◌else◌}
use Prim.Native.Nat.{ℕ, ◌≤◌, ◌<◌}
use mathlib.Core.Path.{◌≡◌, refl, sym, ◌∙◌}
use mathlib.Core.Bool.{Bool, true, false}
use mathlib.Core.List.{List, ◌++◌}
use native.Mathlib.Omega.{arith}
use lib.ListN.{length, take, length-take}
use lib.Dec.{ltb}
use borrow.Author.Tests.{le-ltb, ltb-false}
use Rattle.refusal.specs.declared.Refusal.{Refusal}
use Rattle.grammar.specs.declared.Cursor.{Cursor}
use Rattle.grammar.specs.Outcome.{got, refused}
use Rattle.grammar.specs.Combinators.{file}
use Rattle.grammar.proofs.Outcome.{got-ne-refused}
use Rattle.grammar.proofs.Torn.{front-is-truncated, more-is-trailing}
use Rattle.format.specs.Artifact.{Places, Artifact}
use Rattle.format.specs.File.{artifact, read}
use Rattle.format.proofs.Prefix.{whole-artifact}

module _ (places : Places) (mask : ℕ) (s : List ℕ) where
  -- within the limit the file is what its sections give
  within : length s ≤ 1048576 → read places mask s ≡ file (artifact places mask) s
  unfolding read
  within h = rw (le-ltb 1048576 (length s) h)

  -- what is accepted is within the limit
  accepted-within : (a : Artifact) (last : Cursor) → read places mask s ≡ got a last → length s ≤ 1048576
  unfolding read
  accepted-within a last e = go (ltb 1048576 (length s)) refl e
    where
      go : (t : Bool) → ltb 1048576 (length s) ≡ t →
          (if t then refused (Refusal.TooLong (length s)) else file (artifact places mask) s) ≡ got a last → length s ≤ 1048576
      go true t e = absurd (got-ne-refused (sym e))
      go false t e = ltb-false _ _ t

module _ (places : Places) (mask : ℕ) (s : List ℕ) (a : Artifact) (last : Cursor) (accepted : read places mask s ≡ got a last) where
  limit : length s ≤ 1048576
  limit = accepted-within places mask s a last accepted

  accepted-file : file (artifact places mask) s ≡ got a last
  accepted-file = sym (within places mask s limit) ∙ accepted

  pub front-refused : (k : ℕ) → k < length s → read places mask (take k s) ≡ refused Refusal.Truncated
  front-refused k h =
      within places mask (take k s) (simp length-take (omega (arith, limit)))
      ∙ front-is-truncated (whole-artifact places mask) s a last accepted-file k h

  pub more-refused : (t : List ℕ) → 0 < length t → length (s ++ t) ≤ 1048576 →
      read places mask (s ++ t) ≡ refused (Refusal.TrailingBytes (length t))
  more-refused t more h = within places mask (s ++ t) h ∙ more-is-trailing (whole-artifact places mask) s a last accepted-file t more
