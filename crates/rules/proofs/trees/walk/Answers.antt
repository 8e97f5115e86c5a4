-- The walk stands by its law (Walking).
use Rattle.rules.proofs.Walking.{walk-short, walking-none, walking-paid, walking-end, walking-greedy, walking-row}
use Rattle.rules.proofs.trees.walk.Goals as goal

pub returns-then-rows-n : goal.returns-then-rows-n
returns-then-rows-n c = walk-short _ _ c.if-rows-n.true

pub loop-row-init : goal.loop-row-init
loop-row-init c = walking-none _ _ c.if-rows-n.false

pub returns-then-owed-eq0 : goal.returns-then-owed-eq0
returns-then-owed-eq0 c = walking-paid _ _ c.loop-row.invariant c.if-owed-eq0.true

pub returns-then-rest-owed : goal.returns-then-rest-owed
returns-then-rest-owed c = walking-greedy _ _ c.loop-row.invariant c.in-Some.ensures.cases.0 c.if-owed-eq0.false c.owns-more.ensures c.if-rest-owed.true

pub loop-row-preserved : goal.loop-row-preserved
loop-row-preserved c = walking-row _ _ c.loop-row.invariant c.in-Some.ensures.cases.0 c.if-owed-eq0.false c.owns-more.ensures c.if-rest-owed.false

pub returns : goal.returns
returns c = walking-end _ _ c.loop-row.invariant c.in_default.ensures.cases
