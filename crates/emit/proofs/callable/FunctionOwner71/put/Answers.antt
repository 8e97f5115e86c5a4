-- One field behind another.
use Rattle.rows.specs.Back.{word, parameter_of}
use Rattle.written.specs.Put.{put_name}
use Rattle.emit.proofs.Laws.{puts-same, puts_then}
use Rattle.emit.proofs.Fields.{access-word}
use Rattle.emit.proofs.Listing.{rows-meant}
use Rattle.emit.proofs.callable.FunctionOwner71.put.Goals as goal

pub returns : goal.returns
returns c =
    puts_then c.index-behind.ensures (puts_then (puts-same (access-word (word c.args.row 1)) c.flag-opened.ensures) (puts_then c.this-typed.ensures (puts_then (rows-meant put_name parameter_of _ c.list-listed.ensures) c.chunk.ensures)))
