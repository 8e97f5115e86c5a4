-- What the rules that were tested before say of the tables that are lent.
use Rattle.std.specs.Prelude.{◌*◌, ◌≤◌, ◌≡◌, true, length}
use Rattle.model.specs.Lent.{Lent}
use Rattle.model.specs.Rules.{counts_fit}

-- the rows that are used are there
pub record RowsStand (m : Lent) : Type 0 where
  pub counts : counts_fit m ≡ true
  pub ends : m.outside.used.names ≤ length m.ends
  pub constants : m.outside.used.constants * 8 ≤ length m.constants
  pub tokens : m.outside.used.tokens * 2 ≤ length m.tokens
  pub assigns : m.outside.used.assigns * 6 ≤ length m.assigns
  pub chains : m.outside.used.chains * 9 ≤ length m.chains
  pub steps : m.outside.used.steps * 11 ≤ length m.steps
  pub switches : m.outside.used.switches * 3 ≤ length m.switches
  pub cases : m.outside.used.cases * 2 ≤ length m.cases
  pub ranges : m.outside.used.ranges * 4 ≤ length m.ranges
  pub customs : m.outside.used.customs * 3 ≤ length m.customs
  pub inputs : m.outside.used.inputs * 5 ≤ length m.inputs
  pub functions : m.outside.used.functions * 7 ≤ length m.functions
  pub parameters : m.outside.used.parameters ≤ length m.parameters
