-- The cases, the ranges, then the default (`Standing`).
use Rattle.tables.proofs.Answers.{left-got, left-no-more}
use Rattle.switches.proofs.Standing.{switch_refused, switch-got, switch-no-default, switch-no-ranges, switch-no-cases}
use Rattle.switches.proofs.switch.Goals as goal

pub returns-in_err-more : goal.returns-in_err-more
returns-in_err-more c =
    switch_refused c.from_residual.ensures.1 (switch-no-cases _ _ _ _ _ _ _ (left-no-more c.case_list.ensures c.in_err-more.was))

pub returns-in_err-further : goal.returns-in_err-further
returns-in_err-further c =
    switch_refused c.from_residual-in_err-further.ensures.1 (switch-no-ranges _ _ _ _ _ _ _ _ _ c.args.cases.now c.args.cases.now (left-got c.case_list.ensures c.in_ok-more.was) (left-no-more c.range_list.ensures c.in_err-further.was))

pub returns-in_err-default : goal.returns-in_err-default
returns-in_err-default c =
    switch_refused c.from_residual-in_err-default.ensures.1 (switch-no-default _ _ _ _ _ _ _ _ _ _ _ (left-got c.case_list.ensures c.in_ok-more.was) (left-got c.range_list.ensures c.in_ok-further.was) c.in_err-default.ensures)

pub returns : goal.returns
returns c =
    switch-got _ _ _ _ _ _ _ _ _ _ _ (left-got c.case_list.ensures c.in_ok-more.was) (left-got c.range_list.ensures c.in_ok-further.was) c.in_ok-default.ensures
