-- The loop stands by its law (Keying), for each test that the closure decides.
use Rattle.std.proofs.Common.{refl}
use Rattle.rules.proofs.Keying.{keying-fails, keying-map, keying-other, keying-end}
use Rattle.rules.proofs.trees.keys.Goals as goal
use Rattle.rules.proofs.trees.keys.Goals.{else-row-eq8-via-then-row-eq8+else-not-entries, else-row-eq8-via-else-row-eq8}

pub loop-row-init : goal.loop-row-init
loop-row-init g c = λ test d. record { same = refl }

pub returns-then-not-entries : goal.returns-then-not-entries
returns-then-not-entries g c =
    λ test d. keying-fails _ _ (c.loop-row.invariant test d) c.in-Some.ensures.cases.0 c.if-row-eq8.true (c.if-not-entries.ensures test d)

pub loop-row-preserved : goal.loop-row-preserved
loop-row-preserved g c =
    λ test d. elim c.else-row-eq8.branch [
      | else-row-eq8-via-then-row-eq8+else-not-entries w ↦ keying-map _ _ (c.loop-row.invariant test d) c.in-Some.ensures.cases.0 w.if-row-eq8.true (w.if-not-entries.ensures test d)
      | else-row-eq8-via-else-row-eq8 w ↦ keying-other _ _ (c.loop-row.invariant test d) c.in-Some.ensures.cases.0 w.if-row-eq8.false
    ]

pub returns : goal.returns
returns g c = λ test d. keying-end _ _ (c.loop-row.invariant test d) c.in_default.ensures.cases
