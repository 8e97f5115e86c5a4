-- Counts that fit say that the rows are there.
use Prim.Native.Nat.{ℕ, ◌*◌, ◌/◌, ◌≤◌}
use mathlib.Core.Path.{◌≡◌}
use mathlib.Core.Bool.{true, ◌&&◌}
use native.Mathlib.Nat.{mul-one}
use borrow.Author.Tests.{leb-true}
use lib.ListN.{length}
use lib.Dec.{leb}
use Rattle.tables.proofs.Fitting.{rows_fit}
use Rattle.model.specs.Lent.{Lent}
use Rattle.model.specs.Rules.{fits, counts_fit}
use Rattle.rules.proofs.Both.{both}
use Rattle.judging.specs.Standing.{RowsStand}

stand : (used width size : ℕ) → leb used (size / width) ≡ true → used * width ≤ size
stand used width size h = rows_fit width used size (leb-true _ _ h)

-- the thirteen tables, as the counts are joined
pub rows-stand : (m : Lent) → counts_fit m ≡ true → RowsStand m
rows-stand m e =
    let u = m.outside.used in
    let front = both ((fits u.names 1 m.ends && fits u.constants 8 m.constants)
    && (fits u.tokens 2 m.tokens && fits u.assigns 6 m.assigns)) _ e in
    let pools = both (fits u.names 1 m.ends && fits u.constants 8 m.constants) _ front.first in
    let names = both (fits u.names 1 m.ends) _ pools.first in
    let tokens = both (fits u.tokens 2 m.tokens) _ pools.second in
    let sites = both ((fits u.chains 9 m.chains && fits u.steps 11 m.steps)
    && (fits u.switches 3 m.switches && (fits u.cases 2 m.cases && fits u.ranges 4 m.ranges))) _ front.second in
    let jumps = both (fits u.chains 9 m.chains && fits u.steps 11 m.steps) _ sites.first in
    let chains = both (fits u.chains 9 m.chains) _ jumps.first in
    let switches = both (fits u.switches 3 m.switches) _ jumps.second in
    let cases = both (fits u.cases 2 m.cases) _ switches.second in
    let calls = both (fits u.customs 3 m.customs && fits u.inputs 5 m.inputs) _ sites.second in
    let customs = both (fits u.customs 3 m.customs) _ calls.first in
    let functions = both (fits u.functions 7 m.functions) _ calls.second in
    record {
      counts = e;
      ends = rw (mul-one u.names) at (stand u.names 1 (length m.ends) names.first);
      constants = stand u.constants 8 (length m.constants) names.second;
      tokens = stand u.tokens 2 (length m.tokens) tokens.first;
      assigns = stand u.assigns 6 (length m.assigns) tokens.second;
      chains = stand u.chains 9 (length m.chains) chains.first;
      steps = stand u.steps 11 (length m.steps) chains.second;
      switches = stand u.switches 3 (length m.switches) switches.first;
      cases = stand u.cases 2 (length m.cases) cases.first;
      ranges = stand u.ranges 4 (length m.ranges) cases.second;
      customs = stand u.customs 3 (length m.customs) customs.first;
      inputs = stand u.inputs 5 (length m.inputs) customs.second;
      functions = stand u.functions 7 (length m.functions) functions.first;
      parameters = rw (mul-one u.parameters) at (stand u.parameters 1 (length m.parameters) functions.second);
    }
