-- What is copied into the middle of a table is a run of stores.
use Rattle.std.proofs.Common.{◌≡◌, ◌+◌, ◌-◌, length, arith}
use Rattle.std.proofs.lemmas.List.Edits.{sets-eq}
use Rattle.std.proofs.Math.Seq.{drop-drop}
use Rattle.std.proofs.Common.{append_assoc}
use Rattle.tables.proofs.store.Goals as goal

pub returns : goal.returns
returns c = let e : (c.args.at + length c.args.row.now) - c.args.at ≡ length c.args.row.now = omega arith in
    rw (e, c.copy_from_slice.ensures.after, sets-eq c.args.row.now c.args.t.now c.args.at (omega arith), drop-drop (length c.args.row.now) c.args.at c.args.t.now, append_assoc)
