-- Switches are given back: cases, ranges, a default.
use Rattle.std.proofs.Common.{if◌then◌else◌}
use Prim.Native.Nat.{ℕ}
use mathlib.Core.Path.{◌≡◌, refl}
use mathlib.Core.Bool.{Bool, true, false, not}
use mathlib.Core.List.{List}
use native.Mathlib.Omega.{arith}
use lib.Dec.{eqb}
use borrow.Author.Tests.{lt-ltb}
use Rattle.grammar.specs.RoundTrip.{Gives}
use Rattle.grammar.proofs.RoundTrip.{itself, gives-pure, gives-check-then, gives-place-then, gives-byte-then}
use Rattle.format.specs.declared.records.Case.{Case}
use Rattle.format.specs.declared.records.Range.{Range}
use Rattle.format.specs.Artifact as A
use Rattle.format.specs.File as definition
use Rattle.rows.specs.Fits.{FitsRange}
use Rattle.written.specs.Put.{put_list, put_case, put_range, put_switch}
use Rattle.written.specs.WellFormed.{WellCase, WellSwitch, CaseRoom, WellSwitches}
use Rattle.written.proofs.Parts.{gives_then, gives-end, gives-ended, gives-index, gives-signed}
use Rattle.written.proofs.Lists.{gives-themselves, gives-list, gives-nested}

gives-case : {s : List ℕ} (tops : ℕ) (c : Case) → WellCase tops c → Gives itself s (definition.case tops) (put_case c) c
unfolding definition.case
gives-case tops c ok =
    gives_then _ (gives-index ok.fits.blocks) (gives-place-then (λ at. gives-ended _ (gives-index ok.fits.constant)
    (gives-check-then _ _ (lt-ltb _ _ ok.top) (gives-pure _ refl))))

inclusive-back : (b : Bool) → not (eqb (if b then 1 else 0) 0) ≡ b
inclusive-back true = refl
inclusive-back false = refl

gives-range : {s : List ℕ} (r : Range) → FitsRange r → Gives itself s definition.case_range (put_range r) r
unfolding definition.case_range
gives-range r fits =
    gives_then _ (gives-signed fits.from) (gives_then _ (gives-signed fits.to) (gives-byte-then _ _
    (gives-end _ (gives-index fits.target) (rw (inclusive-back r.inclusive)))))

gives-switch : {s : List ℕ} (case_places range_places tops : ℕ) (w : A.Cased) (used : A.UsedCases) → WellSwitch tops w →
    CaseRoom case_places range_places (A.count_cases used w) → Gives itself s (definition.switch case_places range_places tops used) (put_switch w) w
unfolding definition.switch
gives-switch case_places range_places tops w used ok room =
    gives_then _ (gives-themselves (gives-list itself 8 case_places (gives-case tops) w.cases used.cases ok.counted_cases room.cases ok.fits.cases))
    (gives_then _ (gives-themselves (gives-list itself 9 range_places gives-range w.ranges used.ranges ok.counted_ranges room.ranges ok.fits.ranges))
    (gives-end _ (gives-index ok.fits.whole) (rw (← ok.says_cases, ← ok.says_ranges))))

pub gives-switches : {s : List ℕ} (places case_places range_places tops : ℕ) (ws : List A.Cased) → WellSwitches places case_places range_places tops ws →
    Gives itself s (definition.switches places case_places range_places tops) (put_list put_switch ws) ws
unfolding definition.switches
gives-switches places case_places range_places tops ws ok =
    gives-nested A.count_cases (CaseRoom case_places range_places) 7 places
    (λ used w r. record { cases = omega (arith, r.cases); ranges = omega (arith, r.ranges) }) (gives-switch case_places range_places tops) _ ws ok.list ok.item_room
