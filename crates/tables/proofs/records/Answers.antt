-- One record more is read, or refused, by each turn of the loop (`Filling`).
use Rattle.std.proofs.Common.{Ok, Err, rules, ◌≡◌, ◌-◌, ◌+◌, ◌*◌, length, refl, ◌∙◌, arith}
use Rattle.std.proofs.lemmas.Result.{err_from_is_err_and}
use Rattle.std.proofs.Math.Seq.{length-sets}
use Rattle.tables.proofs.Filling.{filling-none, filling-full, filling-refused, filling-more, filling-done, left-refused}
use Rattle.tables.proofs.records.Goals as goal

pub loop-init : goal.loop-init
loop-init g c =
    let all : c.args.n - 0 ≡ c.args.n = omega arith in
    (refl, λ s p reads. rw all (filling-none _ _ _ _ _ _ _ _ _ _))

pub returns-then-places-used : goal.returns-then-places-used
returns-then-places-used g c = λ s p reads. left-refused (filling-full (c.loop.invariant.1 s p reads) (omega (arith, c.loop-test.true)) (omega (arith, c.if-places-used.true)))

pub returns-in_err-record : goal.returns-in_err-record
returns-in_err-record g c = λ s p reads.
    let e = err_from_is_err_and c.from_residual.result c.from_residual.ensures.1 in
    rw (e.1, e.2) (left-refused (filling-refused (c.loop.invariant.1 s p reads) (omega (arith, c.loop-test.true)) (omega (arith, c.if-places-used.false)) (reads c.loop.c (Err c.in_err-record.field-0.0) c.in_err-record.ensures)))

pub loop-preserved : goal.loop-preserved
loop-preserved g c =
    let wide : length c.into-row.result ≡ g.row.W = search rules in
    let next : c.args.n - (c.loop.counter + 1) ≡ (c.args.n - c.loop.counter) - 1 = omega arith in (
      rw c.store.ensures (length-sets c.loop.t (c.loop.used * g.row.W) c.into-row.result ∙ c.loop.invariant.0),
      λ s p reads. rw (c.store.ensures, next) (filling-more (c.loop.invariant.1 s p reads) (omega (arith, c.loop-test.true)) (omega (arith, c.if-places-used.false)) (reads c.loop.c (Ok (c.in_ok-record.record, c.in_ok-record.next)) c.in_ok-record.ensures c.into-row.result c.into-row.ensures) wide),
    )

pub returns : goal.returns
returns g c = λ s p reads. filling-done (c.loop.invariant.1 s p reads) (omega (arith, c.loop-test.false))
