-- All sections of an accepted file were got.
use Rattle.std.proofs.Common.{if◌then◌else◌}
use Prim.Native.Nat.{ℕ, ◌-◌}
use mathlib.Core.Path.{◌≡◌, sym}
use mathlib.Core.Bool.{Bool, true, false}
use mathlib.Core.List.{List}
use lib.ListN.{length}
use lib.Dec.{ltb, eqb}
use Rattle.refusal.specs.declared.Refusal.{Refusal}
use Rattle.grammar.specs.declared.Cursor.{Cursor}
use Rattle.grammar.specs.Outcome.{start, Outcome, got, refused, after}
use Rattle.grammar.specs.Combinators as combinators
use Rattle.grammar.proofs.Outcome.{got-ne-refused}
use Rattle.format.specs.Artifact as A
use Rattle.format.specs.File as definition

pub sections-got : (P : A.Places) (mask : ℕ) (s : List ℕ) (a : A.Artifact) (last : Cursor) → definition.read P mask s ≡ got a last →
    definition.artifact P mask s start ≡ got a last
unfolding definition.read combinators.file
sections-got P mask s a last e = within (ltb 1048576 (length s)) e
  where
    at-end : (b : A.Artifact) (next : Cursor) (t : Bool) →
        (if t then got b next else refused (Refusal.TrailingBytes (length s - next.at))) ≡ got a last → got b next ≡ got a last
    at-end b next true e = e
    at-end b next false e = absurd (got-ne-refused (sym e))

    got-all : (o : Outcome A.Artifact) → after o (combinators.ended s) ≡ got a last → o ≡ got a last
    got-all (got b next) e = at-end b next (eqb next.at (length s)) e
    got-all (refused r) e = absurd (got-ne-refused (sym e))

    within : (t : Bool) → (if t then refused (Refusal.TooLong (length s)) else after (definition.artifact P mask s start) (combinators.ended s)) ≡ got a last →
        definition.artifact P mask s start ≡ got a last
    within true e = absurd (got-ne-refused (sym e))
    within false e = got-all (definition.artifact P mask s start) e
