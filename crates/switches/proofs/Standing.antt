-- One switch, its cases and ranges in their tables: what was read, and what an answer says.
use Prim.Native.Nat.{ℕ, ◌+◌, ◌*◌, ◌-◌}
use mathlib.Core.Path.{◌≡◌, refl, sym, ◌∙◌, ap}
use mathlib.Core.List.{List}
use native.Mathlib.Omega.{arith}
use lib.ListN.{length}
use lib.Seq.{sets}
use Rattle.std.proofs.Common.{Result, Ok, Err}
use Rattle.std.specs.Result.{IsErrAnd}
use Rattle.refusal.specs.declared.Refusal.{Refusal}
use Rattle.grammar.specs.declared.Cursor.{Cursor}
use Rattle.grammar.specs.Outcome.{Outcome, got, refused, pure, ◌>>=◌}
use Rattle.grammar.specs.Number.{index}
use Rattle.grammar.proofs.Outcome.{got-ne-refused, got-value}
use Rattle.grammar.proofs.Read.{answer_refused}
use Rattle.tables.specs.Table.{rows}
use Rattle.tables.proofs.Answers.{GotList}
use Rattle.format.specs.declared.records.Case.{Case}
use Rattle.format.specs.declared.records.Range.{Range}
use Rattle.format.specs.declared.records.Switch.{Switch}
use Rattle.format.specs.Artifact.{Cased}
use Rattle.format.specs.File.{list, case, case_range, switch}
use Rattle.format.specs.Rows.{case_row, range_row}
use Rattle.switches.specs.Answers.{used_cases, switch_is, cases_behind, LeftSwitch}

-- a refusal says nothing of the tables
pub switch_refused : {o : Outcome Cased} {cases ranges : ℕ} {ce cx re rx : List ℕ} {r : Result ((Switch × (ℕ × ℕ)) × Cursor) Refusal} {why : Refusal} →
    IsErrAnd r (λ x. x ≡ why) → o ≡ refused why → LeftSwitch o cases ranges ce cx re rx r
switch_refused {r = r} {why} is_why e =
    record {
      result = rw e (sym (answer_refused _ r why is_why));
      case_table = λ w next is. absurd (got-ne-refused (sym is ∙ e));
      range_table = λ w next is. absurd (got-ne-refused (sym is ∙ e));
    }

module _ (case_places range_places tops cased ranged : ℕ) (s : List ℕ) (c : Cursor) (ce cx re rx : List ℕ) where
  -- cases, ranges, then a default
  pub switch-got : {more further default : ℕ} {next last end : Cursor} →
      GotList (list 8 case_places (case tops) cased s c) case_row 2 cased ce cx more next →
      GotList (list 9 range_places case_range ranged s next) range_row 4 ranged re rx further last → index s last ≡ got default end →
      LeftSwitch (switch case_places range_places tops (used_cases cased ranged) s c) cased ranged ce cx re rx
      (Ok ((record { cases = more - cased; ranges = further - ranged; default = default }, (more, further)), end))
  unfolding switch ◌>>=◌ pure
  switch-got {more} {further} {default} {next} {last} {end} g h e =
      let a : more - cased ≡ length g.all = omega (arith, g.counts) in
      let b : further - ranged ≡ length h.all = omega (arith, h.counts) in
      record {
        result = rw (g.is, h.is, e, a, b, g.counts, h.counts);
        case_table = λ w later is. rw (← (ap (λ w. w.cases) (same w later is))) g.table;
        range_table = λ w later is. rw (← (ap (λ w. w.ranges) (same w later is))) h.table;
      }
    where
      this : Cased
      this = record { whole = record { cases = length g.all; ranges = length h.all; default = default }; cases = g.all; ranges = h.all }

      same : (w : Cased) (later : Cursor) → switch case_places range_places tops (used_cases cased ranged) s c ≡ got w later → this ≡ w
      same w later is =
          let whole : switch case_places range_places tops (used_cases cased ranged) s c ≡ got this end = rw (g.is, h.is, e) in
          got-value (sym whole ∙ is)

  pub switch-no-default : {more further : ℕ} {next last : Cursor} {q : Refusal} →
      GotList (list 8 case_places (case tops) cased s c) case_row 2 cased ce cx more next →
      GotList (list 9 range_places case_range ranged s next) range_row 4 ranged re rx further last → index s last ≡ refused q →
      switch case_places range_places tops (used_cases cased ranged) s c ≡ refused q
  unfolding switch ◌>>=◌
  switch-no-default g h e = rw (g.is, h.is, e)

  pub switch-no-ranges : {more : ℕ} {next : Cursor} {q : Refusal} →
      GotList (list 8 case_places (case tops) cased s c) case_row 2 cased ce cx more next →
      list 9 range_places case_range ranged s next ≡ refused q →
      switch case_places range_places tops (used_cases cased ranged) s c ≡ refused q
  unfolding switch ◌>>=◌
  switch-no-ranges g e = rw (g.is, e)

pub switch-no-cases : (case_places range_places tops cased ranged : ℕ) (s : List ℕ) (c : Cursor) {q : Refusal} →
    list 8 case_places (case tops) cased s c ≡ refused q → switch case_places range_places tops (used_cases cased ranged) s c ≡ refused q
unfolding switch ◌>>=◌
switch-no-cases case_places range_places tops cased ranged s c e = rw e

-- a switch that was got
pub record GotSwitch (o : Outcome Cased) (cases ranges : ℕ) (ce cx re rx : List ℕ) (whole : Switch) (more further : ℕ) (next : Cursor) : Type 0 where
  pub case_list : List Case
  pub range_list : List Range
  pub is : o ≡ got (record { whole = whole; cases = case_list; ranges = range_list }) next
  pub case_count : more ≡ cases + length case_list
  pub range_count : further ≡ ranges + length range_list
  pub case_table : cx ≡ sets ce (cases * 2) (rows case_row case_list)
  pub range_table : rx ≡ sets re (ranges * 4) (rows range_row range_list)

module _ {o : Outcome Cased} {cases ranges : ℕ} {ce cx re rx : List ℕ} {r : Result ((Switch × (ℕ × ℕ)) × Cursor) Refusal} where
  pub switch-was-got : LeftSwitch o cases ranges ce cx re rx r → {whole : Switch} {more further : ℕ} {next : Cursor} →
      r ≡ Ok ((whole, (more, further)), next) → GotSwitch o cases ranges ce cx re rx whole more further next
  switch-was-got l {whole} {more} {further} {next} e = go o refl (l.result ∙ ap switch_is e)
    where
      go : (p : Outcome Cased) → o ≡ p → cases_behind (used_cases cases ranges) p ≡ got (whole, used_cases more further) next →
          GotSwitch o cases ranges ce cx re rx whole more further next
      go (got w last) is same =
          let here : last ≡ next = cc in
          let this : w.whole ≡ whole = ap (λ p. p.0) (got-value same) in
          let case_count : cases + length w.cases ≡ more = ap (λ p. p.1.cases) (got-value same) in
          let range_count : ranges + length w.ranges ≡ further = ap (λ p. p.1.ranges) (got-value same) in
          record {
            case_list = w.cases;
            range_list = w.ranges;
            is = rw (← here, ← this) is;
            case_count = sym case_count;
            range_count = sym range_count;
            case_table = l.case_table w last is;
            range_table = l.range_table w last is;
          }
      go (refused r) is same = absurd (got-ne-refused (sym same))

  pub switch-was-refused : LeftSwitch o cases ranges ce cx re rx r → {why : Refusal} → r ≡ Err why → o ≡ refused why
  switch-was-refused l {why} e = go o refl (l.result ∙ ap switch_is e)
    where
      go : (p : Outcome Cased) → o ≡ p → cases_behind (used_cases cases ranges) p ≡ refused why → o ≡ refused why
      go (got w last) is same = absurd (got-ne-refused same)
      go (refused q) is same = let here : q ≡ why = cc in is ∙ ap (λ k. refused k) here
