-- The writer's answer as a row, and the output as it left it.
use Rattle.grain.proofs.Written.{tells}
use Rattle.grain.proofs.write.grain_write.Goals as goal

pub returns : goal.returns
returns c =
    tells (rw (c.fits.ensures, c.outside.ensures) at c.write.ensures)
    c.encoded_row-row.ensures c.put_values.ensures
