-- `utf8::next_state` meets its contract: the masks are remainders, and the tables' rule says the rest. Assumes nothing.
use native.Mathlib.Omega.{arith}
use lib.Bits.{mask_lt}
use lib.ListN.{get_or}
use mir.Facts.{Fits-mask}
use Rattle.utf8.proofs.Tables.{led}
use Rattle.utf8.proofs.next_state.Goals as goal

pub overflow_cast-result : goal.overflow_cast-result
overflow_cast-result c =
    Fits-mask (get_or c.args.classes.now c.args.byte 0) 4 tt

pub offset_bounds-words-class : goal.offset_bounds-words-class
offset_bounds-words-class c =
    omega (arith, mask_lt (get_or c.args.classes.now c.args.byte 0) 4)

pub bounds-words-class : goal.bounds-words-class
bounds-words-class c =
    mask_lt (get_or c.args.classes.now c.args.byte 0) 4

pub returns : goal.returns
returns c =
    led _ _ _ _ c.requires.tables c.requires.numbered c.ranges.byte.fits
