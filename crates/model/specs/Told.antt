-- What the code lends, as the definitions of writing take it.
use Rattle.model.specs.declared.Lent.{Lent as Told}
use Rattle.model.specs.Lent.{Lent, lent}

abbrev pub lent_is : Told → Lent
lent_is l = lent l.outside l.numbers_fit l.names.now l.constants.now l.tokens.now l.assigns.now l.chains.now l.steps.now l.switches.now l.cases.now l.ranges.now l.customs.now l.inputs.now l.functions.now l.parameters.now l.text.now
