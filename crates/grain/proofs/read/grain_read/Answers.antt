-- The answer and its words, and the tables as the reader left them.
use Rattle.std.proofs.Common.{refl}
use Rattle.grain.proofs.Telling.{leaves}
use Rattle.grain.proofs.read.grain_read.Goals as goal

pub returns : goal.returns
returns c = leaves c.read-a.ensures c.words-words.ensures refl
