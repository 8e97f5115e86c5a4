-- Every case holds, by computing the definitions.
use mathlib.Core.Path.{refl}
use Rattle.grammar.specs.Outcome.{pure, refuse, ◌>>=◌}
use Rattle.grammar.specs.Combinators.{Each, taking, byte, fixed, text, place, check, left, room, ◌⇒◌∣◌, unknown, many}
use Rattle.grammar.specs.Combinators as combinators
use Rattle.grammar.specs.Number.{groups, number, unzigzag, signed, shortest_in, shortest}
use Rattle.position_table.specs.Table.{field, reached, entries, table, whole, checked, walked, seek, resolved}
use Rattle.position_table.specs.Encode.{kept, order, entries_of, bytes_of, encoded, encoded_bytes}
use Rattle.utf8.specs.Syntax.{UTF8-char}
use Rattle.utf8.specs.Check.{first, next, passes, is_utf8}
use Rattle.tables.specs.Table.{records, nested}
use Rattle.format.specs.File as file
use Rattle.cases.specs.Table.{Holds, cases}

pub all_hold : Each Holds cases
unfolding pure refuse ◌>>=◌ taking byte place check groups number unzigzag signed shortest_in shortest field reached entries table whole checked walked seek resolved kept order entries_of bytes_of encoded encoded_bytes fixed text left room many ◌⇒◌∣◌ unknown records nested UTF8-char first next passes is_utf8 file.string file.bytes file.list file.name_index file.position file.chunk file.header file.names file.kind file.constant file.constants file.tokens file.assigns file.root file.step file.tail file.chain file.chains file.case file.case_range file.switch file.switches file.customs file.functions file.positions file.sound file.artifact file.read combinators.file
all_hold = (refl, (refl, (refl, (refl, (refl, (refl, (refl, (refl, (refl, (refl, (refl, (refl, (refl, (refl, (refl, (refl, (refl, (refl, (refl, (refl, (refl, tt)))))))))))))))))))))
