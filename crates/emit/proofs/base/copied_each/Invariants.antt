-- The loop has copied i bytes (`Copying`).
use Rattle.emit.proofs.Texts.{Copying}
use Rattle.emit.proofs.base.copied_each.Given as goal

abbrev pub invariant-loop-i : goal.invariant-loop-i
invariant-loop-i l = Copying l.text l.from l.n l.initial.out l.at l.out l.i
