-- The loop over switches: their rows in one table (`Nesting`), their cases' and ranges' rows in two others.
use Prim.Native.Nat.{ℕ, ◌+◌, ◌*◌, ◌-◌, ◌/◌, ◌≤◌, ◌<◌}
use mathlib.Core.Path.{◌≡◌, refl, sym, ◌∙◌, ap, subst}
use mathlib.Core.List.{List, [], ◌∷◌, ◌++◌}
use native.Mathlib.Nat.{add-mul}
use native.Mathlib.Omega.{arith}
use lib.ListN.{length}
use lib.Seq.{sets, length-sets}
use Rattle.std.proofs.Common.{Result, Ok, Err}
use Rattle.std.specs.Result.{IsErrAnd}
use Rattle.refusal.specs.declared.Refusal.{Refusal}
use Rattle.grammar.specs.declared.Cursor.{Cursor}
use Rattle.grammar.specs.Outcome.{Outcome, got, refused}
use Rattle.grammar.proofs.Outcome.{got-ne-refused, got-value}
use Rattle.grammar.proofs.Read.{answer_refused}
use Rattle.tables.specs.Table.{rows, nested}
use Rattle.tables.proofs.Listing.{Stored, stored-none, stored_more}
use Rattle.tables.proofs.Nesting.{length-rows, Nesting, nesting-none, nesting-full, nesting-refused, nesting-more, nesting-done}
use Rattle.format.specs.declared.records.Case.{Case}
use Rattle.format.specs.declared.records.Range.{Range}
use Rattle.format.specs.declared.records.Switch.{Switch}
use Rattle.format.specs.Artifact.{Cased, count_cases}
use Rattle.format.specs.File.{switch}
use Rattle.format.specs.Rows.{switch_row, case_row, range_row}
use Rattle.switches.specs.declared.Switched.{Switched}
use Rattle.switches.specs.Answers.{used_cases, nothing, LeftSwitch, LeftCases}
use Rattle.switches.proofs.Standing.{GotSwitch, switch-was-got, switch-was-refused}

-- a refusal says nothing of the tables
pub all_refused : {o : Outcome (List Cased)} {entry exit ce cx re rx : List ℕ} {r : Result (Switched × Cursor) Refusal} {why : Refusal} →
    IsErrAnd r (λ x. x ≡ why) → o ≡ refused why → LeftCases o entry exit ce cx re rx r
all_refused {r = r} {why} is_why e =
    record {
      result = rw e (sym (answer_refused _ r why is_why));
      table = λ xs next is. absurd (got-ne-refused (sym is ∙ e));
      cases = λ xs next is. absurd (got-ne-refused (sym is ∙ e));
      ranges = λ xs next is. absurd (got-ne-refused (sym is ∙ e));
    }

-- the next word of a table behind some rows of one width
next_word : {A : Type 0} (row : A → List ℕ) (width : ℕ) → ((x : A) → length (row x) ≡ width) → (used : ℕ) (xs : List A) →
    used * width + length (rows row xs) ≡ (used + length xs) * width
next_word row width wide used xs = rw (length-rows row width wide xs) (sym (add-mul used (length xs) width))

-- n switches are wanted; so many are read and stored
pub record Switching (tops : ℕ) (s : List ℕ) (c : Cursor) (n : ℕ) (entry t ce cs re rs : List ℕ) (now : Cursor) (counter used cased ranged : ℕ) : Type 0 where
  pub left : ℕ
  pub wanted : counter + left ≡ n
  pub nest : Nesting count_cases 7 (length entry / 3) (switch (length ce / 2) (length re / 4) tops) (λ w. switch_row w.whole) 3 s c n (used_cases 0 0) entry t now left used (used_cases cased ranged)
  pub cases : Stored (λ w. rows case_row w.cases) ce 0 nest.done cs (cased * 2)
  pub ranges : Stored (λ w. rows range_row w.ranges) re 0 nest.done rs (ranged * 4)
  pub same_cases : length cs ≡ length ce
  pub same_ranges : length rs ≡ length re

pub switching-none : (tops : ℕ) (s : List ℕ) (c : Cursor) (n : ℕ) (entry ce re : List ℕ) → Switching tops s c n entry entry ce ce re re c 0 0 0 0
unfolding nesting-none
switching-none tops s c n entry ce re =
    record {
      left = n;
      wanted = omega arith;
      nest = nesting-none _ _ _ _ _ _ s c n (used_cases 0 0) entry;
      cases = stored-none _ ce 0;
      ranges = stored-none _ re 0;
      same_cases = refl;
      same_ranges = refl;
    }

module _ {tops : ℕ} {s : List ℕ} {c : Cursor} {n : ℕ} {entry t ce cs re rs : List ℕ} {now : Cursor} {counter used cased ranged : ℕ}
    (g : Switching tops s c n entry t ce cs re rs now counter used cased ranged) where
  -- what is wanted, by the definition
  abbrev all_wanted : Outcome (List Cased)
  all_wanted = nested count_cases 7 (length entry / 3) (switch (length ce / 2) (length re / 4) tops) n nothing s c

  pub switching-full : counter < n → length entry / 3 ≤ used → all_wanted ≡ refused (Refusal.Full 7)
  switching-full h full = nesting-full g.nest (omega (arith, g.wanted)) full

  pub switching-refused : counter < n → used < length entry / 3 → {cx rx : List ℕ} {r : Result ((Switch × (ℕ × ℕ)) × Cursor) Refusal} {why : Refusal} →
      LeftSwitch (switch (length cs / 2) (length rs / 4) tops (used_cases cased ranged) s now) cased ranged cs cx rs rx r →
      r ≡ Err why → all_wanted ≡ refused why
  switching-refused h free l e = nesting-refused g.nest (omega (arith, g.wanted)) free (rw (g.same_cases, g.same_ranges) at (switch-was-refused l e))

  -- one more is stored
  stood : counter < n → used < length entry / 3 → {whole : Switch} (xs : List Case) (ys : List Range) {cx rx : List ℕ} {more further : ℕ} {later : Cursor} →
      more ≡ cased + length xs → further ≡ ranged + length ys →
      cx ≡ sets cs (cased * 2) (rows case_row xs) → rx ≡ sets rs (ranged * 4) (rows range_row ys) →
      switch (length cs / 2) (length rs / 4) tops (used_cases cased ranged) s now ≡ got (record { whole = whole; cases = xs; ranges = ys }) later →
      Switching tops s c n entry (sets t (used * 3) (switch_row whole)) ce cx re rx later (counter + 1) (used + 1) more further
  unfolding nesting-more
  stood h free {whole} xs ys case_count range_count case_table range_table is =
      rw (case_count, range_count, case_table, range_table)
      (record {
        left = g.left - 1;
        wanted = omega (arith, g.wanted);
        nest = nesting-more g.nest (omega (arith, g.wanted)) free (rw (g.same_cases, g.same_ranges) at is) refl;
        cases = subst (Stored (λ w. rows case_row w.cases) ce 0 (g.nest.done ++ (this ∷ [])) _) (next_word case_row 2 (λ x. refl) cased xs) (stored_more g.cases this);
        ranges = subst (Stored (λ w. rows range_row w.ranges) re 0 (g.nest.done ++ (this ∷ [])) _) (next_word range_row 4 (λ x. refl) ranged ys) (stored_more g.ranges this);
        same_cases = length-sets cs (cased * 2) (rows case_row xs) ∙ g.same_cases;
        same_ranges = length-sets rs (ranged * 4) (rows range_row ys) ∙ g.same_ranges;
      })
    where
      this : Cased
      this = record { whole = whole; cases = xs; ranges = ys }

  pub switching-more : counter < n → used < length entry / 3 → {cx rx : List ℕ} {r : Result ((Switch × (ℕ × ℕ)) × Cursor) Refusal} {whole : Switch} {more further : ℕ} {later : Cursor} →
      LeftSwitch (switch (length cs / 2) (length rs / 4) tops (used_cases cased ranged) s now) cased ranged cs cx rs rx r →
      r ≡ Ok ((whole, (more, further)), later) →
      Switching tops s c n entry (sets t (used * 3) (switch_row whole)) ce cx re rx later (counter + 1) (used + 1) more further
  switching-more h free {cx} {rx} {r} {whole} {more} {further} {later} l e =
      let one : GotSwitch (switch (length cs / 2) (length rs / 4) tops (used_cases cased ranged) s now) cased ranged cs cx rs rx whole more further later =
      switch-was-got l e in
      stood h free one.case_list one.range_list one.case_count one.range_count one.case_table one.range_table one.is

  pub switching-done : n ≤ counter → LeftCases all_wanted entry t ce cs re rs (Ok (record { used = used; cases = cased; ranges = ranged }, now))
  switching-done e =
      record {
        result = rw all (ap (λ u. got u now) g.nest.used);
        table = λ xs next is. let same : g.nest.done ≡ xs = got-value (sym all ∙ is) in rw (← same) g.nest.stored.is;
        cases = λ xs next is. let same : g.nest.done ≡ xs = got-value (sym all ∙ is) in rw (← same) g.cases.is;
        ranges = λ xs next is. let same : g.nest.done ≡ xs = got-value (sym all ∙ is) in rw (← same) g.ranges.is;
      }
    where
      all : all_wanted ≡ got g.nest.done now
      all = nesting-done g.nest (omega (arith, g.wanted))
