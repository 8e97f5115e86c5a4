-- What the first pass finds is the answer, and the second one writes.
use Rattle.std.proofs.Common.{sym, ap, ◌∙◌, arith}
use Rattle.std.proofs.lemmas.Result.{err_from_is_err_and}
use Rattle.pos.proofs.Sites.{encoded_long, encoded_refused, encoded_no_room, encoded_done, measured_is, bytes_refused, bytes_done}
use Rattle.pos.proofs.encoding.encode.Goals as goal

pub returns-then-n-gt262144 : goal.returns-then-n-gt262144
returns-then-n-gt262144 g c =
    let e = encoded_long (g.S.Sites.list c.args.sites.now) _ (rw c.count-n.ensures at c.if-n-gt262144.true) in
    record { value = rw c.count-n.ensures e; out_after = bytes_refused _ _ e }

pub returns-in_err-m : goal.returns-in_err-m
returns-in_err-m g c =
    let p = err_from_is_err_and c.from_residual.result c.from_residual.ensures.1 in
    let e = encoded_refused (g.S.Sites.list c.args.sites.now) (omega arith) (sym c.in_err-m.ensures) _ in
    record { value = rw (p.1, p.2) e; out_after = bytes_refused _ _ e }

pub returns-then-room-needed : goal.returns-then-room-needed
returns-then-room-needed g c =
    let e = encoded_no_room (g.S.Sites.list c.args.sites.now) (omega arith) (sym c.in_ok-m.ensures) _ c.if-room-needed.true in
    record { value = e; out_after = bytes_refused _ _ e }

pub write-requires : goal.write-requires
write-requires g c =
    let m = measured_is (g.S.Sites.list c.args.sites.now) (omega arith) (sym c.in_ok-m.ensures) in
    record { counted = ap (λ n. n.kept) (sym m.1); room = rw (ap (λ n. n.size) m.1) c.if-room-needed.false }

pub returns : goal.returns
returns g c =
    let e = encoded_done (g.S.Sites.list c.args.sites.now) (omega arith) (sym c.in_ok-m.ensures) _ c.if-room-needed.false in
    record { value = e; out_after = c.write.ensures ∙ bytes_done _ _ e }
