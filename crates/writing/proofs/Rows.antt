-- What rules 1, 5 and 6 say of what is put: the rows are there and the shares of them, and the constants stand.
use Prim.Native.Nat.{ℕ, ◌*◌, ◌≤◌}
use mathlib.Core.Bool.{Bool, true, ◌&&◌}
use mathlib.Core.Path.{◌≡◌}
use native.Mathlib.Nat.{mul-one}
use lib.ListN.{length}
use borrow.Author.Tests.{eqb-true}
use lib.Dec.{eqb}
use Rattle.model.specs.Lent.{Lent, constant_rows, chain_rows, switch_rows, custom_rows, function_rows}
use Rattle.model.specs.Rules.{total, rule1, counts_fit, shares_fit, exactly}
use Rattle.emit.specs.Shares.{SharesFit}
use Rattle.emit.specs.Constants.{ConstantsFit}
use Rattle.judging.specs.Standing.{RowsStand}
use Rattle.rules.proofs.Both.{Both, both}
use Rattle.judging.proofs.Rows.{rows-stand}
use Rattle.writing.specs.Ready.{Ready}

-- the shares use their tables exactly
pub record Exact (m : Lent) : Type 0 where
  pub steps : total 6 (chain_rows m) ≡ m.outside.used.steps
  pub cases : total 0 (switch_rows m) ≡ m.outside.used.cases
  pub ranges : total 1 (switch_rows m) ≡ m.outside.used.ranges
  pub inputs : total 2 (custom_rows m) ≡ m.outside.used.inputs
  pub parameters : total 3 (function_rows m) ≡ m.outside.used.parameters

same : (x y : ℕ) (b : Bool) → eqb x y && b ≡ true → (x ≡ y) × (b ≡ true)
same x y b h = let parts = both (eqb x y) b h in (eqb-true x y parts.first, parts.second)

module _ (m : Lent) (h : rule1 m ≡ true) where
  halves : Both (counts_fit m) (shares_fit m.outside.used m.outside.tops m.constants m.chains m.switches m.customs m.functions)
  halves = both _ _ h

  uses : Exact m
  uses =
      let u = m.outside.used in
      let trees = both (exactly (constant_rows m) m.outside.tops) _ halves.second in
      let steps = same (total 6 (chain_rows m)) u.steps _ trees.second in
      let cases = same (total 0 (switch_rows m)) u.cases _ steps.1 in
      let ranges = same (total 1 (switch_rows m)) u.ranges _ cases.1 in
      let inputs = same (total 2 (custom_rows m)) u.inputs _ ranges.1 in
      record { steps = steps.0; cases = cases.0; ranges = ranges.0; inputs = inputs.0; parameters = eqb-true _ _ inputs.1 }

module _ {m : Lent} (r : Ready m) where
  rows : RowsStand m
  rows = rows-stand m (halves m r.counted).first

  pub exact : Exact m
  exact = uses m r.counted

  pub ends_there : m.outside.used.names * 1 ≤ length m.ends
  ends_there = rw (mul-one m.outside.used.names) rows.ends

  pub constants-fit : ConstantsFit m.constants m.outside.used.constants m.outside.tops
  constants-fit =
      record {
        counts = rows.constants;
        exact = (both (exactly (constant_rows m) m.outside.tops) _ (halves m r.counted).second).first;
        known = r.known;
        shallow = r.shallow;
      }

  pub tokens-there : m.outside.used.tokens * 2 ≤ length m.tokens
  tokens-there = rows.tokens

  pub assigns-there : m.outside.used.assigns * 6 ≤ length m.assigns
  assigns-there = rows.assigns

  pub steps-fit : SharesFit 6 9 m.outside.used.chains m.chains 11 m.steps
  steps-fit = record { rows = rows.chains; shares = rw exact.steps rows.steps }

  pub cases_fit : SharesFit 0 3 m.outside.used.switches m.switches 2 m.cases
  cases_fit = record { rows = rows.switches; shares = rw exact.cases rows.cases }

  pub ranges-fit : SharesFit 1 3 m.outside.used.switches m.switches 4 m.ranges
  ranges-fit = record { rows = rows.switches; shares = rw exact.ranges rows.ranges }

  pub inputs-fit : SharesFit 2 3 m.outside.used.customs m.customs 5 m.inputs
  inputs-fit = record { rows = rows.customs; shares = rw exact.inputs rows.inputs }

  pub parameters-fit : SharesFit 3 7 m.outside.used.functions m.functions 1 m.parameters
  parameters-fit =
      record { rows = rows.functions; shares = rw (exact.parameters, mul-one m.outside.used.parameters) rows.parameters }
