-- The loop over switches, which own shares of two tables.
use Prim.Native.Nat.{ℕ, suc, ◌+◌, ◌*◌, ◌≤◌, ◌<◌}
use mathlib.Core.Path.{◌≡◌, refl, ◌∙◌, ap}
use mathlib.Core.List.{List, [], ◌∷◌}
use native.Mathlib.Omega.{arith}
use lib.ListN.{length, take, drop}
use Rattle.grammar.specs.Combinators.{put_all}
use Rattle.grammar.specs.Number.{shortest}
use Rattle.format.specs.declared.records.Switch.{Switch}
use Rattle.format.specs.declared.records.Case.{Case}
use Rattle.format.specs.declared.records.Range.{Range}
use Rattle.rows.specs.Back.{records_of, switch_of, case_of, range_of}
use Rattle.written.specs.Put.{put_list, put_switch}
use Rattle.model.specs.Tables.{shared_cases}
use Rattle.emit.specs.Puts.{Puts}
use Rattle.emit.specs.Shares.{owned, SharesFit, switches_of, switch_from}
use Rattle.emit.proofs.Laws.{Onward, onward-none, onward-more, onward-done}
use Rattle.emit.proofs.Listing.{between, between_more, between_none, between-all, length-records, counted}
use Rattle.emit.proofs.Sharing.{share, others, owed, owed_all, owed_more}

-- the switches before j are put, with the cases before `from` and the ranges before `behind`
pub record Switching (t : List ℕ) (used : ℕ) (cases ranges all e : List ℕ) (at j from behind : ℕ) (out : List ℕ) (place : ℕ) : Type 0 where
  pub fit_cases : SharesFit 0 3 used t 2 cases
  pub fit_ranges : SharesFit 1 3 used t 4 ranges
  pub few : j ≤ used
  pub own_cases : from + owed 0 3 t j used ≡ owned 0 3 used t
  pub own_ranges : behind + owed 1 3 t j used ≡ owned 1 3 used t
  pub going : Onward all e at (put_all put_switch (shared_cases (between 3 switch_of t j used)
      (between 2 case_of cases from (owned 0 3 used t)) (between 4 range_of ranges behind (owned 1 3 used t)))) out place

pub switching-none : {t : List ℕ} {used : ℕ} {cases ranges m : List ℕ} {mid : ℕ} → SharesFit 0 3 used t 2 cases → SharesFit 1 3 used t 4 ranges →
    Switching t used cases ranges (put_all put_switch (switches_of t used cases ranges)) m mid 0 0 0 m mid
switching-none {t} {used} {cases} {ranges} fit_cases fit_ranges =
    record {
      fit_cases = fit_cases;
      fit_ranges = fit_ranges;
      few = omega arith;
      own_cases = rw (owed_all 0 3 t used) (omega arith);
      own_ranges = rw (owed_all 1 3 t used) (omega arith);
      going = rw (between-all 3 switch_of t used, between-all 2 case_of cases (owned 0 3 used t), between-all 4 range_of ranges (owned 1 3 used t))
          onward-none;
    }

module _ {t : List ℕ} {used : ℕ} {cases ranges all e : List ℕ} {at j from behind : ℕ} {out : List ℕ} {place : ℕ}
    (g : Switching t used cases ranges all e at j from behind out place) where
  abbrev row : List ℕ
  row = take 3 (drop (j * 3) t)

  -- the next switch is there, and its cases and ranges
  pub switching-row : j < used → (j + 1) * 3 ≤ length t
  switching-row h = omega (arith, g.fit_cases.rows)

  owned-cases : j < used → from + (switch_of row).cases ≤ owned 0 3 used t
  owned-cases h = omega (arith, g.own_cases, owed_more 0 3 t j used h)

  owned-ranges : j < used → behind + (switch_of row).ranges ≤ owned 1 3 used t
  owned-ranges h = omega (arith, g.own_ranges, owed_more 1 3 t j used h)

  pub switching-cases : j < used → {w : Switch} → w ≡ switch_of row → (from + w.cases) * 2 ≤ length cases
  switching-cases h is = rw is (omega (arith, owned-cases h, g.fit_cases.shares))

  pub switching-ranges : j < used → {w : Switch} → w ≡ switch_of row → (behind + w.ranges) * 4 ≤ length ranges
  switching-ranges h is = rw is (omega (arith, owned-ranges h, g.fit_ranges.shares))

  pub switching-more : {w : Switch} {x : List ℕ} {next : ℕ} → j < used → w ≡ switch_of row →
      Puts (put_switch (switch_from w cases from ranges behind)) out place x next →
      Switching t used cases ranges all e at (j + 1) (from + w.cases) (behind + w.ranges) x next
  switching-more h is p = rw is (go (rw is at p))
    where
      go : {x : List ℕ} {next : ℕ} → Puts (put_switch (switch_from (switch_of row) cases from ranges behind)) out place x next →
          Switching t used cases ranges all e at (j + 1) (from + (switch_of row).cases) (behind + (switch_of row).ranges) x next
      go p =
          record {
            fit_cases = g.fit_cases;
            fit_ranges = g.fit_ranges;
            few = omega arith;
            own_cases = omega (arith, g.own_cases, owed_more 0 3 t j used h);
            own_ranges = omega (arith, g.own_ranges, owed_more 1 3 t j used h);
            going = rw (← others 2 case_of cases from (switch_of row).cases (owned 0 3 used t) (owned-cases h), ← others 4 range_of ranges behind (switch_of row).ranges (owned 1 3 used t) (owned-ranges h))
                (onward-more (rw (between_more 3 switch_of t j used h) at g.going)
                (rw (← share 2 case_of cases from (switch_of row).cases (owned 0 3 used t) (owned-cases h), ← share 4 range_of ranges behind (switch_of row).ranges (owned 1 3 used t) (owned-ranges h)) at p));
          }

  pub switching-done : used ≤ j → Puts all e at out place
  switching-done h = onward-done (rw (between_none 3 switch_of t j used h) at g.going)

pub length-cased : (ws : List Switch) (cases : List Case) (ranges : List Range) → length (shared_cases ws cases ranges) ≡ length ws
length-cased [] cases ranges = refl
length-cased (w ∷ ws) cases ranges = ap suc (length-cased ws (drop w.cases cases) (drop w.ranges ranges))

-- a count, and as many switches
pub switched-all : {t : List ℕ} {used : ℕ} {cases ranges e m x : List ℕ} {at mid j from behind next : ℕ} → Puts (shortest used) e at m mid →
    Switching t used cases ranges (put_all put_switch (switches_of t used cases ranges)) m mid j from behind x next → used ≤ j →
    Puts (put_list put_switch (switches_of t used cases ranges)) e at x next
switched-all {t} {used} {cases} {ranges} p g h =
    counted put_switch used (switches_of t used cases ranges) (length-cased (records_of 3 switch_of used t) _ _ ∙ length-records 3 switch_of used t) p
    (switching-done g h)
