-- What index answers, with a refusal as a table says it.
use Rattle.position_table.specs.Table.{field}
use Rattle.pos.proofs.reading.field.Goals as goal

pub returns-in-Ok : goal.returns-in-Ok
unfolding field
returns-in-Ok c =
    rw c.in-Ok.ensures

pub returns-in-Err : goal.returns-in-Err
unfolding field
returns-in-Err c =
    rw (c.in-Err.ensures, c.in_table.ensures)
