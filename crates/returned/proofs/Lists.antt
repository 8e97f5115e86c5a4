-- Lists of records with items: how many items there are, and each record's share of them.
use Prim.Native.Nat.{ℕ, ◌+◌}
use mathlib.Core.Path.{◌≡◌, refl, ◌∙◌}
use mathlib.Core.List.{List, [], ◌∷◌, ◌++◌, map, flat_map, foldl}
use native.Mathlib.Nat.{zero-add}
use native.Mathlib.Omega.{arith}
use lib.ListN.{length, length-append}
use lib.Seq.{take_at, drop_at}
use Rattle.grammar.specs.Combinators.{Each}
use Rattle.tables.specs.Table.{With, count_items}
use Rattle.format.specs.Artifact as A
use Rattle.model.specs.Tables.{shared, shared_cases}

-- ── over a list ──

-- two steps over each record, where they are one
pub twice : {X Y Z : Type 0} (f : Y → Z) (g : X → Y) (h : X → Z) {P : X → Type 0} → ((x : X) → P x → f (g x) ≡ h x) → (xs : List X) → Each P xs →
    map f (map g xs) ≡ map h xs
twice f g h one [] ok = refl
twice f g h one (x ∷ xs) ok = rw (one x ok.0, twice f g h one xs ok.1)

pub each_append : {Y : Type 0} (P : Y → Type 0) (a b : List Y) → Each P a → Each P b → Each P (a ++ b)
each_append P [] b first second = second
each_append P (y ∷ a) b first second = (first.0, each_append P a b first.1 second)

pub each-flat : {X Y : Type 0} (items : X → List Y) (P : Y → Type 0) (xs : List X) → Each (λ x. Each P (items x)) xs → Each P (flat_map items xs)
unfolding flat_map
each-flat items P [] ok = tt
each-flat items P (x ∷ xs) ok = each_append P (items x) (flat_map items xs) ok.0 (each-flat items P xs ok.1)

-- ── items ──

-- places used behind records with items are as many as all the items
counted : {S X Y : Type 0} (next : S → X → S) (view : S → ℕ) (items : X → List Y) → ((used : S) (x : X) → view (next used x) ≡ view used + length (items x)) →
    (xs : List X) (used : S) → view (foldl next used xs) ≡ view used + length (flat_map items xs)
unfolding flat_map
counted next view items one [] used = omega arith
counted next view items one (x ∷ xs) used =
    omega (arith, counted next view items one xs (next used x), one used x, length-append (items x) (flat_map items xs))

pub items-used : {X Y : Type 0} (ws : List (With X Y)) → foldl count_items 0 ws ≡ length (flat_map (λ w. w.items) ws)
items-used ws = counted count_items (λ n. n) (λ w. w.items) (λ used w. refl) ws 0 ∙ zero-add _

pub cases-used : (ws : List A.Cased) → (foldl A.count_cases (record { cases = 0; ranges = 0 }) ws).cases ≡ length (flat_map (λ w. w.cases) ws)
cases-used ws = counted A.count_cases (λ u. u.cases) (λ w. w.cases) (λ used w. refl) ws _ ∙ zero-add _

pub ranges-used : (ws : List A.Cased) → (foldl A.count_cases (record { cases = 0; ranges = 0 }) ws).ranges ≡ length (flat_map (λ w. w.ranges) ws)
ranges-used ws = counted A.count_cases (λ u. u.ranges) (λ w. w.ranges) (λ used w. refl) ws _ ∙ zero-add _

-- each record that says how many items it has gets them back
pub shared_back : {X Y : Type 0} (count : X → ℕ) (ws : List (With X Y)) → Each (λ w. count w.whole ≡ length w.items) ws →
    shared count (map (λ w. w.whole) ws) (flat_map (λ w. w.items) ws) ≡ ws
unfolding flat_map
shared_back count [] says = refl
shared_back count (w ∷ ws) says =
    rw (says.0, take_at w.items (flat_map (λ w. w.items) ws) _ refl, drop_at w.items (flat_map (λ w. w.items) ws) _ refl, shared_back count ws says.1)

-- and a switch its cases and its ranges
pub shared-cases-back : (ws : List A.Cased) → Each (λ w. (w.whole.cases ≡ length w.cases) × (w.whole.ranges ≡ length w.ranges)) ws →
    shared_cases (map (λ w. w.whole) ws) (flat_map (λ w. w.cases) ws) (flat_map (λ w. w.ranges) ws) ≡ ws
unfolding flat_map
shared-cases-back [] says = refl
shared-cases-back (w ∷ ws) says =
    rw (
      says.0.0,
      says.0.1,
      take_at w.cases (flat_map (λ w. w.cases) ws) _ refl,
      drop_at w.cases (flat_map (λ w. w.cases) ws) _ refl,
      take_at w.ranges (flat_map (λ w. w.ranges) ws) _ refl,
      drop_at w.ranges (flat_map (λ w. w.ranges) ws) _ refl,
      shared-cases-back ws says.1,
    )
