-- One section behind another.
use Rattle.sizes.proofs.Laws.{counts-then}
use mathlib.Core.Path.{sym}
use native.Mathlib.Omega.{arith}
use Rattle.writing.specs.Halves.{back_of}
use Rattle.writing.proofs.Rows.{exact, steps-fit, cases_fit, ranges-fit, inputs-fit, parameters-fit}
use Rattle.writing.proofs.count.back.Goals as goal

pub chains-chains-requires : goal.chains-chains-requires
chains-chains-requires c =
    record { at_bound = c.requires.at_bound; shares_fit = steps-fit c.requires.ready; owned_value = sym (exact c.requires.ready).steps }

pub switches-switches-requires : goal.switches-switches-requires
switches-switches-requires c =
    record { at_bound = omega arith; shares_fit = cases_fit c.requires.ready; shares_fit_2 = ranges-fit c.requires.ready; cased_value = sym (exact c.requires.ready).cases; ranged_value = sym (exact c.requires.ready).ranges }

pub sites-sites-requires : goal.sites-sites-requires
sites-sites-requires c =
    record { at_bound = omega arith; shares_fit = inputs-fit c.requires.ready; owned_value = sym (exact c.requires.ready).inputs }

pub functions-functions-requires : goal.functions-functions-requires
functions-functions-requires c =
    record { at_bound = omega arith; shares_fit = parameters-fit c.requires.ready; owned_value = sym (exact c.requires.ready).parameters }

pub returns : goal.returns
unfolding back_of
returns c =
    counts-then c.chains-chains.ensures (counts-then c.switches-switches.ensures (counts-then c.sites-sites.ensures (counts-then c.chunk-main.ensures (counts-then c.functions-functions.ensures (counts-then c.text-code.ensures c.table.ensures)))))
