-- Custom syntax and functions are given back.
use Rattle.std.specs.Prelude.{Option, Some, None}
use Rattle.std.proofs.Common.{if◌then◌else◌}
use Prim.Native.Nat.{ℕ, ◌+◌, ◌-◌, ◌^◌, ◌≤◌}
use mathlib.Core.Path.{◌≡◌, refl}
use mathlib.Core.List.{List}
use native.Mathlib.Omega.{arith}
use lib.Dec.{eqb}
use borrow.Author.Tests.{le-leb, ne_eqb}
use Rattle.grammar.specs.Outcome.{pure, ◌>>=◌}
use Rattle.grammar.specs.Combinators.{◌⇒◌∣◌}
use Rattle.grammar.specs.Number.{index}
use Rattle.grammar.specs.RoundTrip.{Gives}
use Rattle.grammar.proofs.RoundTrip.{itself, gives-pure, gives-check-then}
use Rattle.tables.specs.Table.{With, count_items}
use Rattle.format.specs.declared.records.NameIndex.{NameIndex}
use Rattle.format.specs.declared.records.Input.{Input}
use Rattle.format.specs.declared.records.Site.{Site}
use Rattle.format.specs.declared.records.Access.{Access}
use Rattle.format.specs.declared.records.Function.{Function}
use Rattle.format.specs.File as definition
use Rattle.rows.specs.Fits.{FitsLiteral, FitsInput, FitsThis}
use Rattle.written.specs.Put.{put_list, put_literal, put_input, put_site, put_access, put_this, put_function}
use Rattle.written.specs.WellFormed.{WellWith, WellSite, WellFunction}
use Rattle.written.proofs.Parts.{gives_then, gives-end, gives-ended, gives-count, gives-index, gives-name, gives-chunk}
use Rattle.written.proofs.Lists.{gives-themselves, gives-list, gives-nested}

gives-input : {s : List ℕ} (i : Input) → FitsInput i → Gives itself s definition.input (put_input i) i
unfolding definition.input
gives-input {s} i fits = gives_then _ (gives-chunk i.chunk fits.chunk) (literal i.literal fits.literal)
  where
    with : Option ℕ → Input
    with l = record { chunk = i.chunk; literal = l }

    literal : (l : Option ℕ) → FitsLiteral l →
        Gives itself s (index >>= (λ n. pure (with (if eqb n 0xFFFFFFFF then None else Some n)))) (put_literal l) (with l)
    literal None fits = gives-end _ (gives-index (record { below = omega arith })) refl
    literal (Some n) fits = gives-end _ (gives-index (record { below = omega arith })) (rw (ne_eqb n 0xFFFFFFFF (omega arith)))

gives-site : {s : List ℕ} (input_places : ℕ) (u : With Site Input) (used : ℕ) → WellSite u →
    count_items used u ≤ input_places → Gives itself s (definition.site input_places used) (put_site u) u
unfolding definition.site
gives-site input_places u used ok room =
    gives_then _ (gives-index ok.fits.whole.key) (gives_then _ (gives-index ok.fits.whole.state)
    (gives-end _ (gives-themselves (gives-list itself 11 input_places gives-input u.items used ok.counted room ok.fits.items)) (rw (← ok.says))))

pub gives-customs : {s : List ℕ} (places input_places : ℕ) (us : List (With Site Input)) →
    WellWith places input_places WellSite us → Gives itself s (definition.customs places input_places) (put_list put_site us) us
unfolding definition.customs
gives-customs places input_places us ok =
    gives-nested count_items (λ used. used ≤ input_places) 10 places (λ used u r. omega arith) (gives-site input_places) 0 us ok.list ok.item_room

gives-access : {s : List ℕ} (a : Access) → Gives itself s definition.access (put_access a) a
unfolding definition.access ◌⇒◌∣◌
gives-access Access.Public = gives-ended _ (gives-count (omega arith)) (gives-pure _ refl)
gives-access Access.Private = gives-ended _ (gives-count (omega arith)) (gives-pure _ refl)

gives-this : {s : List ℕ} (t : Option ℕ) → FitsThis t → Gives itself s definition.this_type (put_this t) t
unfolding definition.this_type
gives-this None fits = gives-ended _ (gives-count (omega arith)) (gives-check-then _ _ refl (gives-pure _ refl))
gives-this (Some n) fits =
    let back : n + 1 - 1 ≡ n = omega arith in
    gives-ended _ (gives-count (omega (arith, fits.below))) (gives-check-then _ _ (le-leb (n + 1) (2 ^ 32) (omega (arith, fits.below)))
    (gives-pure _ (rw (ne_eqb (n + 1) 0 (omega arith), back))))

gives-function : {s : List ℕ} (parameter_places : ℕ) (f : With Function NameIndex) (used : ℕ) → WellFunction f →
    count_items used f ≤ parameter_places → Gives itself s (definition.function parameter_places used) (put_function f) f
unfolding definition.function
gives-function parameter_places f used ok room =
    gives_then _ (gives-name f.whole.name ok.fits.whole.name) (gives_then _ (gives-access f.whole.access)
    (gives_then _ (gives-this f.whole.this_type ok.fits.whole.this)
    (gives_then _ (gives-themselves (gives-list itself 13 parameter_places gives-name f.items used ok.counted room ok.fits.items))
    (gives-end _ (gives-chunk f.whole.chunk ok.fits.whole.chunk) (rw (← ok.says))))))

pub gives-functions : {s : List ℕ} (places parameter_places : ℕ) (fs : List (With Function NameIndex)) →
    WellWith places parameter_places WellFunction fs → Gives itself s (definition.functions places parameter_places) (put_list put_function fs) fs
unfolding definition.functions
gives-functions places parameter_places fs ok =
    gives-nested count_items (λ used. used ≤ parameter_places) 12 places (λ used f r. omega arith) (gives-function parameter_places) 0 fs ok.list ok.item_room
