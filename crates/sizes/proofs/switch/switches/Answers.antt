-- The count, the switches without their items, the cases and the ranges.
use Rattle.sizes.proofs.Records.{switches-count}
use Rattle.sizes.proofs.switch.switches.Goals as goal

pub returns : goal.returns
returns c =
    let a = c.args in switches-count a.t.now a.used a.cases.now a.ranges.now c.number.ensures.value c.plus.ensures c.rows-behind.ensures c.requires.cased_value c.rows-listed.ensures c.requires.ranged_value c.rows.ensures
