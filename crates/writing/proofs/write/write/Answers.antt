-- A refusal for a rule, for the length, for the room; else what was laid.
use Rattle.std.proofs.Common.{sym, arith}
use lib.ListN.{length-append, length-drop}
use lib.Seq.{length-take-le}
use Rattle.writing.proofs.Answers.{ready, judged-sound, writes-judged, writes-long, writes-none, writes-all}
use Rattle.writing.proofs.write.write.Goals as goal

pub returns-in_err-judge : goal.returns-in_err-judge
returns-in_err-judge c = writes-judged c.judge.ensures c.in_err-judge.was c.from_residual.ensures.1

pub count-size-requires : goal.count-size-requires
count-size-requires c = ready c.args.mask (judged-sound _ c.judge.ensures c.in_ok-judge.was)

pub returns-then-size-gt-BYTES : goal.returns-then-size-gt-BYTES
returns-then-size-gt-BYTES c =
    writes-long (judged-sound _ c.judge.ensures c.in_ok-judge.was) c.count-size.ensures c.if-size-gt-BYTES.true

pub returns-then-out-size : goal.returns-then-out-size
returns-then-out-size c =
    writes-none (judged-sound _ c.judge.ensures c.in_ok-judge.was) c.count-size.ensures c.if-size-gt-BYTES.false c.if-out-size.true

pub slice_bounds-lay-end-2 : goal.slice_bounds-lay-end-2
slice_bounds-lay-end-2 c =
    sym (length-take-le c.count-size.result c.args.out.now c.if-out-size.false)

pub lay-requires : goal.lay-requires
lay-requires c = ready c.args.mask (judged-sound _ c.judge.ensures c.in_ok-judge.was)

pub shape_of-out : goal.shape_of-out
shape_of-out c =
    simp (length-append, length-drop) (omega (arith, c.lay.ensures.kept, length-take-le c.count-size.result c.args.out.now c.if-out-size.false))

pub returns : goal.returns
returns c =
    writes-all (judged-sound _ c.judge.ensures c.in_ok-judge.was) c.count-size.ensures c.if-size-gt-BYTES.false c.if-out-size.false c.lay.ensures
