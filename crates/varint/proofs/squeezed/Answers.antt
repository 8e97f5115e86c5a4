-- Three steps, each of which brings neighbours together.
use Rattle.varint.proofs.Payloads.{squeezed-is}
use Rattle.varint.proofs.squeezed.Goals as goal

pub returns : goal.returns
returns c =
    squeezed-is _ c.ranges.x.fits
