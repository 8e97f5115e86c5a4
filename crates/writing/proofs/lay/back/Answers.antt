-- One section behind another.
use Rattle.emit.proofs.Laws.{puts_then}
use Rattle.writing.specs.Halves.{back_of}
use Rattle.writing.proofs.Rows.{steps-fit, cases_fit, ranges-fit, inputs-fit, parameters-fit}
use Rattle.writing.proofs.lay.back.Goals as goal

pub chains-chains-requires : goal.chains-chains-requires
chains-chains-requires c =
    steps-fit c.requires

pub switches-switches-requires : goal.switches-switches-requires
switches-switches-requires c =
    record { shares_fit = cases_fit c.requires; shares_fit_2 = ranges-fit c.requires }

pub sites-sites-requires : goal.sites-sites-requires
sites-sites-requires c =
    inputs-fit c.requires

pub functions-functions-requires : goal.functions-functions-requires
functions-functions-requires c =
    parameters-fit c.requires

pub returns : goal.returns
unfolding back_of
returns c =
    puts_then c.chains-chains.ensures (puts_then c.switches-switches.ensures (puts_then c.sites-sites.ensures (puts_then c.chunk-main.ensures (puts_then c.functions-functions.ensures (puts_then c.text-code.ensures c.table.ensures)))))
