-- What the answer of a section tells where it was got; of lists in one table and of records with items, tables/proofs/Got.antt has it.
use Rattle.std.proofs.Common.{◌≡◌, ◌∙◌, ℕ, Result, Ok, Err, refl, ap}
use mathlib.Core.List.{List, foldl}
use lib.ListN.{length}
use Rattle.refusal.specs.declared.Refusal.{Refusal}
use Rattle.grammar.specs.declared.Cursor.{Cursor}
use Rattle.grammar.specs.Outcome.{Outcome, got, refused}
use Rattle.grammar.specs.Combinators.{Text, text_at}
use Rattle.grammar.proofs.Read.{Got, told, told_got, told_refused}
use Rattle.tables.specs.Table.{Used, count_items}
use Rattle.tables.proofs.Got.{used_for, used-both, both_of}
use Rattle.format.specs.Artifact as A
use Rattle.reading.specs.Places.{header_of}
use Rattle.reading.specs.Answer.{outside}
use Rattle.constants.specs.declared.Counts.{Counts}
use Rattle.constants.specs.Kept.{counts, KeptAll}
use Rattle.sections.specs.declared.names.NameList.{NameList}
use Rattle.sections.specs.Names.{Named, names_behind, LeftNames}
use Rattle.switches.specs.declared.Switched.{Switched}
use Rattle.switches.specs.Answers.{used_all, LeftCases}

-- names
abbrev pub named_of : A.Names → Named
named_of names = record { used = length names.ends; blob = names.blob }

abbrev pub named_in : List ℕ → NameList → Named
named_in s names = record { used = names.used; blob = text_at s names.blob }

module _ {o : Outcome A.Names} {s entry exit : List ℕ} {r : Result (NameList × Cursor) Refusal} (left : LeftNames o s entry exit r) where
  named : (o : Outcome A.Names) → told named_of o ≡ names_behind o
  named (got names next) = refl
  named (refused e) = refl

  pub names-got : {v : NameList} {next : Cursor} → r ≡ Ok (v, next) → Got o next (λ names. named_of names ≡ named_in s v)
  names-got = told_got named_of (named_in s) o (named o ∙ left.result)

  pub names-refused : {why : Refusal} → r ≡ Err why → o ≡ refused why
  names-refused = told_refused named_of (named_in s) o (named o ∙ left.result)

-- constants
abbrev pub Pool : Type 0
Pool = List (A.Constant Text A.levels)

abbrev pub counts_of : Pool → Counts
counts_of cs = record { tops = length cs; used = foldl (A.behind Text A.levels) 0 cs }

module _ {o : Outcome Pool} {entry exit : List ℕ} {r : Result (Counts × Cursor) Refusal} (left : KeptAll o entry exit r) where
  counted : (o : Outcome Pool) → told counts_of o ≡ counts o
  counted (got cs next) = refl
  counted (refused e) = refl

  pub constants-got : {v : Counts} {next : Cursor} → r ≡ Ok (v, next) → Got o next (λ cs. counts_of cs ≡ v)
  constants-got = told_got counts_of (λ v. v) o (counted o ∙ left.result)

  pub constants-refused : {why : Refusal} → r ≡ Err why → o ≡ refused why
  constants-refused = told_refused counts_of (λ v. v) o (counted o ∙ left.result)

-- switches
abbrev no_cases : A.UsedCases
no_cases = record { cases = 0; ranges = 0 }

abbrev pub cases_of : List A.Cased → Used A.UsedCases
cases_of = used_for A.count_cases no_cases

abbrev pub all_of : Switched → Used A.UsedCases
all_of used = used_all used.used used.cases used.ranges

module _ {o : Outcome (List A.Cased)} {entry exit case_entry case_exit range_entry range_exit : List ℕ} {r : Result (Switched × Cursor) Refusal}
    (left : LeftCases o entry exit case_entry case_exit range_entry range_exit r) where
  pub cases-got : {v : Switched} {next : Cursor} → r ≡ Ok (v, next) → Got o next (λ xs. cases_of xs ≡ all_of v)
  cases-got = told_got cases_of all_of o (used-both A.count_cases no_cases o ∙ left.result)

  pub cases-refused : {why : Refusal} → r ≡ Err why → o ≡ refused why
  cases-refused = told_refused cases_of all_of o (used-both A.count_cases no_cases o ∙ left.result)

-- what stands outside the tables, where everything was got
pub told_all : (s : List ℕ) (a : A.Artifact) {named : NameList} {pool : Counts} {tokens assigns : ℕ} {chains customs functions : ℕ × ℕ} {switched : Switched} →
    named_of a.names ≡ named_in s named → counts_of a.constants ≡ pool → length a.tokens ≡ tokens → length a.assigns ≡ assigns →
    used_for count_items 0 a.chains ≡ both_of chains → cases_of a.switches ≡ all_of switched → used_for count_items 0 a.customs ≡ both_of customs →
    used_for count_items 0 a.functions ≡ both_of functions →
    record {
      header = header_of a.header;
      source = a.source.span;
      blob = named.blob;
      tops = pool.tops;
      main = a.main;
      code = a.code.span;
      positions = a.positions.span;
      used = record {
        names = named.used;
        constants = pool.used;
        tokens = tokens;
        assigns = assigns;
        chains = chains.0;
        steps = chains.1;
        switches = switched.used;
        cases = switched.cases;
        ranges = switched.ranges;
        customs = customs.0;
        inputs = customs.1;
        functions = functions.0;
        parameters = functions.1;
      };
    } ≡ outside a
told_all s a ns cs ts os ls ws us fs =
    rw (
      ap (λ n. n.used) ns,
      ap (λ n. n.blob.span) ns,
      ap (λ n. n.tops) cs,
      ap (λ n. n.used) cs,
      ts,
      os,
      ap (λ u. u.own) ls,
      ap (λ u. u.inner) ls,
      ap (λ u. u.own) ws,
      ap (λ u. u.inner.cases) ws,
      ap (λ u. u.inner.ranges) ws,
      ap (λ u. u.own) us,
      ap (λ u. u.inner) us,
      ap (λ u. u.own) fs,
      ap (λ u. u.inner) fs,
    )
