-- The sizes of switches, custom sites and functions, of their items, and of both apart.
use Rattle.std.specs.Prelude.{Some, None}
use Rattle.std.proofs.Common.{if◌then◌else◌}
use Prim.Native.Nat.{ℕ, ◌+◌, ◌-◌, min}
use mathlib.Core.Bool.{Bool, true, false}
use mathlib.Core.Path.{◌≡◌, refl, sym, ◌∙◌, ap}
use mathlib.Core.List.{List, [], ◌∷◌, ◌++◌}
use native.Mathlib.Omega.{arith}
use lib.Dec.{eqb}
use lib.ListN.{length, take, drop, length-append, length-take, length-drop}
use Rattle.grammar.specs.Combinators.{put_all}
use Rattle.grammar.specs.Number.{shortest, shortest_in}
use Rattle.format.specs.declared.records.NameIndex.{NameIndex}
use Rattle.format.specs.declared.records.Switch.{Switch}
use Rattle.format.specs.declared.records.Case.{Case}
use Rattle.format.specs.declared.records.Range.{Range}
use Rattle.format.specs.declared.records.Input.{Input}
use Rattle.format.specs.declared.records.Site.{Site}
use Rattle.format.specs.declared.records.Function.{Function}
use Rattle.format.specs.declared.records.Access.{Access}
use Rattle.rows.specs.Back as B
use Rattle.written.specs.Put.{put_list, put_name, put_case, put_range, put_switch, put_input, put_site, put_access, put_this, put_function}
use Rattle.model.specs.Tables.{shared_cases}
use Rattle.emit.specs.Shares.{owned, switches_of}
use Rattle.emit.proofs.Listing.{length-records}
use Rattle.emit.proofs.Switching.{length-cased}
use Rattle.sizes.specs.Counts.{Counts}
use Rattle.sizes.specs.Own.{own_switch, own_site, own_function}
use Rattle.sizes.proofs.Laws.{counts_same, counts-then}
use Rattle.sizes.proofs.Flat.{listed, rows-counted}
use Rattle.sizes.proofs.Apart.{parted, counts, counts-total}

-- ── one record ──

-- one higher than the index
this-bytes : (none : Bool) (n : ℕ) → shortest (if none then 0 else n + 1) ≡ put_this (if none then None else Some n)
this-bytes true n = refl
this-bytes false n = refl

access-size : (public : Bool) → length (put_access (if public then Access.Public else Access.Private)) ≡ 1
unfolding shortest shortest_in
access-size true = refl
access-size false = refl

pub function-size : (row : List ℕ) {whole this typed parameters entry end slots : ℕ} → whole ≡ length (shortest (B.index (B.word row 0))) →
    this ≡ (if eqb (B.word row 2) 0 then 0 else B.index (B.word row 2 - 1) + 1) → typed ≡ length (shortest this) →
    parameters ≡ length (shortest (B.word row 3)) → entry ≡ length (shortest (B.index (B.word row 4))) →
    end ≡ length (shortest (B.index (B.word row 5))) → slots ≡ length (shortest (B.small (B.word row 6))) →
    whole + 1 + typed + parameters + entry + end + slots ≡ length (own_function (B.function_of row))
function-size row {this = this} {typed = typed} w is t p e d s =
    let told : typed ≡ length (put_this (B.this_of (B.word row 2))) =
    t ∙ ap length (ap shortest is ∙ this-bytes (eqb (B.word row 2) 0) (B.index (B.word row 2 - 1))) in
    let opened : length (put_access (B.access_of (B.word row 1))) ≡ 1 = access-size (eqb (B.word row 1) 0) in
    simp length-append (omega arith)

-- ── items apart from their owners ──

pub site-apart : (u : Site) (inputs : List Input) → length inputs ≡ u.inputs →
    length (put_site (record { whole = u; items = inputs })) ≡ length (own_site u) + length (put_all put_input inputs)
site-apart u inputs counted = rw counted (simp length-append (omega arith))

pub function-apart : (f : Function) (parameters : List NameIndex) → length parameters ≡ f.parameters →
    length (put_function (record { whole = f; items = parameters })) ≡ length (own_function f) + length (put_all put_name parameters)
function-apart f parameters counted = rw counted (simp length-append (omega arith))

switch-apart : (w : Switch) (cases : List Case) (ranges : List Range) → length cases ≡ w.cases → length ranges ≡ w.ranges →
    length (put_switch (record { whole = w; cases = cases; ranges = ranges })) ≡ length (own_switch w) + length (put_all put_case cases) + length (put_all put_range ranges)
switch-apart w cases ranges cased ranged = rw (cased, ranged) (simp length-append (omega arith))

-- ── switches ──

apart-cases : (ws : List Switch) (cases : List Case) (ranges : List Range) → counts (λ w. w.cases) ws ≡ length cases → counts (λ w. w.ranges) ws ≡ length ranges →
    length (put_all put_switch (shared_cases ws cases ranges)) ≡ length (put_all own_switch ws) + length (put_all put_case cases) + length (put_all put_range ranges)
unfolding counts
apart-cases [] [] [] h g = refl
apart-cases [] [] (r ∷ ranges) h g = absurd (omega arith)
apart-cases [] (c ∷ cases) ranges h g = absurd (omega arith)
apart-cases (w ∷ ws) cases ranges h g =
    let here : length (take w.cases cases) ≡ w.cases = simp length-take (omega arith) in
    let there : length (take w.ranges ranges) ≡ w.ranges = simp length-take (omega arith) in
    let rest : counts (λ w. w.cases) ws ≡ length (drop w.cases cases) = simp length-drop (omega arith) in
    let others : counts (λ w. w.ranges) ws ≡ length (drop w.ranges ranges) = simp length-drop (omega arith) in
    omega (
      arith,
      switch-apart w (take w.cases cases) (take w.ranges ranges) here there,
      apart-cases ws (drop w.cases cases) (drop w.ranges ranges) rest others,
      parted put_case w.cases cases,
      parted put_range w.ranges ranges,
      length-append (put_switch (record { whole = w; cases = take w.cases cases; ranges = take w.ranges ranges })) (put_all put_switch (shared_cases ws (drop w.cases cases) (drop w.ranges ranges))),
      length-append (own_switch w) (put_all own_switch ws),
    )

-- the count, the switches without their items, the cases and the ranges
module _ (t : List ℕ) (used : ℕ) (cases ranges : List ℕ) where
  abbrev wholes : List Switch
  wholes = B.records_of 3 B.switch_of used t

  abbrev cased : ℕ → List Case
  cased n = B.records_of 2 B.case_of n cases

  abbrev ranged : ℕ → List Range
  ranged n = B.records_of 4 B.range_of n ranges

  tables-apart : length (put_all put_switch (switches_of t used cases ranges))
      ≡ length (put_all own_switch wholes) + length (put_all put_case (cased (owned 0 3 used t))) + length (put_all put_range (ranged (owned 1 3 used t)))
  tables-apart =
      apart-cases wholes (cased (owned 0 3 used t)) (ranged (owned 1 3 used t))
      (counts-total (λ w. w.cases) B.switch_of 0 (λ row. refl) (B.cut 3 used t) ∙ sym (length-records 2 B.case_of (owned 0 3 used t) cases))
      (counts-total (λ w. w.ranges) B.switch_of 1 (λ row. refl) (B.cut 3 used t) ∙ sym (length-records 4 B.range_of (owned 1 3 used t) ranges))

  pub switches-count : {size at mid behind listed_at n k next : ℕ} → size ≡ length (shortest used) → mid ≡ min (at + size) 1048577 →
      Counts (put_all (λ row. own_switch (B.switch_of row)) (B.cut 3 used t)) mid behind → n ≡ owned 0 3 used t →
      Counts (put_all (λ row. put_case (B.case_of row)) (B.cut 2 n cases)) behind listed_at → k ≡ owned 1 3 used t →
      Counts (put_all (λ row. put_range (B.range_of row)) (B.cut 4 k ranges)) listed_at next → Counts (put_list put_switch (switches_of t used cases ranges)) at next
  switches-count {mid = mid} {next = next} long first own exact some same others =
      let a = put_all own_switch wholes in
      let b = put_all put_case (cased (owned 0 3 used t)) in
      let e = put_all put_range (ranged (owned 1 3 used t)) in
      let all : Counts ((a ++ b) ++ e) mid next =
      counts-then (counts-then (rows-counted own_switch B.switch_of (B.cut 3 used t) own) (rows-counted put_case B.case_of (B.cut 2 (owned 0 3 used t) cases) (rw exact at some)))
      (rows-counted put_range B.range_of (B.cut 4 (owned 1 3 used t) ranges) (rw same at others)) in
      listed put_switch used (switches_of t used cases ranges) (length-cased wholes _ _ ∙ length-records 3 B.switch_of used t) long first
      (counts_same (length-append (a ++ b) e ∙ (ap (λ (z : ℕ). z + length e) (length-append a b) ∙ sym tables-apart)) all)
