-- The records before j are put, each with its share of the items (`Sharing`).
use Rattle.grammar.specs.Combinators.{put_all}
use Rattle.rows.specs.Back.{word, cut}
use Rattle.model.specs.Tables.{shared}
use Rattle.emit.specs.Shares.{owned}
use Rattle.emit.proofs.Sharing.{Sharing}
use Rattle.emit.proofs.record.owners.Given as goal

abbrev pub invariant-loop-j : goal.invariant-loop-j
invariant-loop-j g l =
    let i = g.R.Owner.counted in
    let all = shared (λ row. word row i) (cut g.row.N l.used l.t) (cut g.row.M (owned i g.row.N l.used l.t) l.items) in
    Sharing (λ w. g.R.Owner.bytes l.kind w.whole w.items) i g.row.N g.row.M l.t l.used l.items (put_all (λ w. g.R.Owner.bytes l.kind w.whole w.items) all) l.initial.out l.initial.place l.j l.from l.out l.place
