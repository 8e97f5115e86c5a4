-- What the rules say, one by one: counts, shares, texts, tags and numbers, each of the rows that are used.
use Prim.Native.Nat.{ℕ, ◌*◌, ◌≤◌}
use mathlib.Core.Bool.{Bool, true, ◌&&◌, not, ◌||◌}
use mathlib.Core.Path.{◌≡◌}
use mathlib.Core.List.{List}
use native.Mathlib.Omega.{arith}
use borrow.Author.Tests.{eqb-true}
use lib.Dec.{eqb}
use lib.ListN.{length, take}
use Rattle.grammar.specs.Combinators.{Each}
use Rattle.format.specs.File.{rising, last_end}
use Rattle.rows.specs.Back.{cut}
use Rattle.model.specs.Lent.{Lent, end_rows, constant_rows, token_rows, assign_rows, chain_rows, step_rows, custom_rows, input_rows, every}
use Rattle.model.specs.Rules as R
use Rattle.rules.proofs.Both.{both}
use Rattle.judging.proofs.Kept.{Kept}
use Rattle.judging.proofs.Rows.{rows-stand}
use Rattle.upheld.proofs.Tests.{holds}

-- ── 1 ──

-- the rows that are used are no more than the words of their tables; those of the constants are there
pub record Counts (m : Lent) : Type 0 where
  pub names : m.outside.used.names ≤ length m.ends
  pub constants : m.outside.used.constants * 8 ≤ length m.constants
  pub tokens : m.outside.used.tokens ≤ length m.tokens
  pub assigns : m.outside.used.assigns ≤ length m.assigns
  pub chains : m.outside.used.chains ≤ length m.chains
  pub steps : m.outside.used.steps ≤ length m.steps
  pub switches : m.outside.used.switches ≤ length m.switches
  pub cases : m.outside.used.cases ≤ length m.cases
  pub ranges : m.outside.used.ranges ≤ length m.ranges
  pub customs : m.outside.used.customs ≤ length m.customs
  pub inputs : m.outside.used.inputs ≤ length m.inputs
  pub functions : m.outside.used.functions ≤ length m.functions
  pub parameters : m.outside.used.parameters ≤ length m.parameters

module _ (m : Lent) where
  counts_of_lem : R.counts_fit m ≡ true → Counts m
  counts_of_lem e =
      let rows = rows-stand m e in
      record {
        names = rows.ends;
        constants = rows.constants;
        tokens = omega (arith, rows.tokens);
        assigns = omega (arith, rows.assigns);
        chains = omega (arith, rows.chains);
        steps = omega (arith, rows.steps);
        switches = omega (arith, rows.switches);
        cases = omega (arith, rows.cases);
        ranges = omega (arith, rows.ranges);
        customs = omega (arith, rows.customs);
        inputs = omega (arith, rows.inputs);
        functions = omega (arith, rows.functions);
        parameters = rows.parameters;
      }

pub record Shares (m : Lent) : Type 0 where
  pub constants : R.exactly (cut 8 m.outside.used.constants m.constants) m.outside.tops ≡ true
  pub steps : R.total 6 (cut 9 m.outside.used.chains m.chains) ≡ m.outside.used.steps
  pub cases : R.total 0 (cut 3 m.outside.used.switches m.switches) ≡ m.outside.used.cases
  pub ranges : R.total 1 (cut 3 m.outside.used.switches m.switches) ≡ m.outside.used.ranges
  pub inputs : R.total 2 (cut 3 m.outside.used.customs m.customs) ≡ m.outside.used.inputs
  pub parameters : R.total 3 (cut 7 m.outside.used.functions m.functions) ≡ m.outside.used.parameters

module _ (m : Lent) where
  shares_of : R.shares_fit m.outside.used m.outside.tops m.constants m.chains m.switches m.customs m.functions ≡ true → Shares m
  shares_of e =
      let u = m.outside.used in
      let a = both (R.exactly (cut 8 u.constants m.constants) m.outside.tops) _ e in
      let b = both (eqb (R.total 6 (cut 9 u.chains m.chains)) u.steps) _ a.second in
      let c = both (eqb (R.total 0 (cut 3 u.switches m.switches)) u.cases) _ b.second in
      let d = both (eqb (R.total 1 (cut 3 u.switches m.switches)) u.ranges) _ c.second in
      let f = both (eqb (R.total 2 (cut 3 u.customs m.customs)) u.inputs) _ d.second in
      record {
        constants = a.first;
        steps = eqb-true _ _ b.first;
        cases = eqb-true _ _ c.first;
        ranges = eqb-true _ _ d.first;
        inputs = eqb-true _ _ f.first;
        parameters = eqb-true _ _ f.second;
      }

-- ── 3 ──

-- the texts that strings, pointers, keys, tokens and assign records have
pub record Texts (m : Lent) : Type 0 where
  pub source : R.is_text m.text m.outside.source ≡ true
  pub constants : Each (λ row. not (R.named (R.tag row)) || R.is_text m.text (R.span_at 3 row) ≡ true) (constant_rows m)
  pub keys : Each (λ row. R.is_text m.text (R.span_at 6 row) ≡ true) (R.keyed (constant_rows m))
  pub tokens : Each (λ row. R.is_text m.text (R.span_at 0 row) ≡ true) (token_rows m)
  pub assigns : Each (λ row. R.is_text m.text (R.span_at 0 row) && R.is_text m.text (R.span_at 3 row) ≡ true) (assign_rows m)

module _ (m : Lent) where
  texts-of : R.rule3 m ≡ true → Texts m
  texts-of e =
      let text = R.is_text m.text in
      let constant : List ℕ → Bool = λ row. not (R.named (R.tag row)) || text (R.span_at 3 row) in
      let a = both (text m.outside.source) (R.texts R.named text m.outside.used m.constants m.tokens m.assigns) e in
      let b = both (every constant (constant_rows m) && every (λ row. text (R.span_at 6 row)) (R.keyed (constant_rows m))) _ a.second in
      let c = both (every constant (constant_rows m)) _ b.first in
      let d = both (every (λ row. text (R.span_at 0 row)) (token_rows m)) _ b.second in
      record {
        source = a.first;
        constants = holds _ (constant_rows m) c.first;
        keys = holds _ (R.keyed (constant_rows m)) c.second;
        tokens = holds _ (token_rows m) d.first;
        assigns = holds _ (assign_rows m) d.second;
      }

-- ── all that is asked of the ten ──

pub record Told (mask : ℕ) (m : Lent) : Type 0 where
  pub counts : Counts m
  pub shares : Shares m
  pub blob_lies : R.lies m.text m.outside.blob ≡ true
  pub texts : Texts m
  pub rises : rising 0 (take m.outside.used.names m.ends) ≡ true
  pub last : last_end 0 (take m.outside.used.names m.ends) ≡ m.outside.blob.size
  pub blob : R.is_text m.text m.outside.blob ≡ true
  pub constants : every R.known_constant (constant_rows m) ≡ true
  pub steps : every (R.known_step mask) (step_rows m) ≡ true
  pub shallow : R.rule6 m ≡ true
  pub chars : R.rule7 m ≡ true
  pub tops : R.rule8 m ≡ true
  pub ends : every R.sound_word (end_rows m) ≡ true
  pub inputs : every R.sound_input (input_rows m) ≡ true
  pub positions : R.rule10 m ≡ true

module _ (mask : ℕ) (m : Lent) (rules : Kept mask m) where
  pub told : Told mask m
  told =
      let u = m.outside.used in
      let one = both (R.counts_fit m) _ rules.one in
      let two = both (R.lies m.text m.outside.source && R.lies m.text m.outside.blob) _
      (both (R.outside_lies m.text m.outside.source m.outside.blob m.outside.code m.outside.positions) _ rules.two).first in
      let four = both (rising 0 (take u.names m.ends) && eqb (last_end 0 (take u.names m.ends)) m.outside.blob.size) _ rules.four in
      let ends = both (rising 0 (take u.names m.ends)) _ four.first in
      let five = both (every R.known_constant (constant_rows m) && every R.known_chain (chain_rows m)) _ rules.five in
      let nine = both (R.sound_front u m.ends m.assigns m.chains m.steps) _ (both m.numbers_fit _ rules.nine).second in
      let front = both (every R.sound_word (end_rows m) && every R.sound_assign (assign_rows m)) _ nine.first in
      let calls = both (R.sound_switches u m.switches m.cases m.ranges) _ nine.second in
      record {
        counts = counts_of_lem m one.first;
        shares = shares_of m one.second;
        blob_lies = (both (R.lies m.text m.outside.source) _ two.first).second;
        texts = texts-of m rules.three;
        rises = ends.first;
        last = eqb-true _ _ ends.second;
        blob = four.second;
        constants = (both (every R.known_constant (constant_rows m)) _ five.first).first;
        steps = (both (every (R.known_step mask) (step_rows m)) _ five.second).first;
        shallow = rules.six;
        chars = rules.seven;
        tops = rules.eight;
        ends = (both (every R.sound_word (end_rows m)) _ front.first).first;
        inputs = (both (every R.sound_site (custom_rows m)) _ (both (every R.sound_site (custom_rows m) && every R.sound_input (input_rows m)) _ calls.second).first).second;
        positions = rules.ten;
      }
