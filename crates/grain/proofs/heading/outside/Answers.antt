-- Each word in its place.
use Rattle.grain.proofs.heading.outside.Goals as goal

pub returns : goal.returns
returns c =
    rw (c.used.ensures, c.span-4.ensures, c.span-3.ensures, c.span-2.ensures, c.span.ensures)
