-- What the rules, once tested, say of the tables that are put.
use Rattle.std.specs.Prelude.{◌≡◌, true}
use Rattle.model.specs.Lent.{Lent, constant_rows, every}
use Rattle.model.specs.Rules.{rule1, rule6, known_constant}

-- the rows and the shares of them are there, and constants are known and not too deep
pub record Ready (m : Lent) : Type 0 where
  pub counted : rule1 m ≡ true
  pub known : every known_constant (constant_rows m) ≡ true
  pub shallow : rule6 m ≡ true
