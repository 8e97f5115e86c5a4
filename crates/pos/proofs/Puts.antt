-- One site: how many bytes it takes, and how it is stored.
use Rattle.std.proofs.Common.{◌≡◌, ℕ, zero, suc, ◌+◌, ◌-◌, ◌/◌, ◌%◌, ◌<◌, ◌≤◌, Bool, true, false, ltb, List, [], ◌∷◌, ◌++◌, length, set, sym, ap, ◌∙◌, add-zero, add-suc, add-one, arith, length-append, if◌then◌else◌}
use lib.Seq.{sets, length-sets}
use lib.Bits.{bit_or}
use Rattle.grammar.specs.Number.{shortest, shortest_in}
use Rattle.varint.proofs.Shortest.{more-group, last-group}
use Rattle.pos.proofs.Shorts.{low-left, low-right, low-one, low-two, low-three}
use Rattle.position_table.specs.declared.Site.{Site}
use Rattle.pos.specs.Passes.{entry_of}

-- ── sizes ──

pub width_one : (v : ℕ) → v < 128 → 1 ≡ length (shortest v)
unfolding shortest
width_one v h = sym (ap length (last-group 9 v h))

pub width_two : (v : ℕ) → 128 ≤ v → v < 16384 → 2 ≡ length (shortest v)
unfolding shortest
width_two v h k = sym (ap length (more-group 9 v h) ∙ ap (λ (l : List ℕ). suc (length l)) (last-group 8 (v / 128) (omega arith)))

pub width_three : (v : ℕ) → 16384 ≤ v → v < 2097152 → 3 ≡ length (shortest v)
unfolding shortest
width_three v h k =
    sym (ap length (more-group 9 v (omega arith)) ∙ ap (λ (l : List ℕ). suc (length l)) (more-group 8 (v / 128) (omega arith)) ∙
    ap (λ (l : List ℕ). suc (suc (length l))) (last-group 7 (v / 128 / 128) (omega arith)))

-- a number takes at most ten bytes
short-in : (n v : ℕ) → length (shortest_in n v) ≤ n
unfolding shortest_in
short-in zero v = omega arith
short-in (suc n) v = go (ltb v 128) (short-in n (v / 128))
  where
    go : (b : Bool) → length (shortest_in n (v / 128)) ≤ n → length (if b then v ∷ [] else (v % 128 + 128) ∷ shortest_in n (v / 128)) ≤ suc n
    go true h = omega arith
    go false h = omega arith

pub short-ten : (v : ℕ) → length (shortest v) ≤ 10
unfolding shortest
short-ten v = short-in 10 v

pub entry-size : (previous : ℕ) (site : Site) →
    length (entry_of previous site) ≡ length (shortest (site.address - previous)) + length (shortest site.line) + length (shortest site.column)
unfolding entry_of
entry-size previous site =
    omega (arith, length-append (shortest (site.address - previous)) (shortest site.line ++ shortest site.column), length-append (shortest site.line) (shortest site.column))

pub entry-small : (previous : ℕ) (site : Site) → length (entry_of previous site) ≤ 30
entry-small previous site =
    omega (arith, entry-size previous site, short-ten (site.address - previous), short-ten site.line, short-ten site.column)

-- ── stores, one behind the other ──

pub sets-append : (out : List ℕ) (at : ℕ) (xs ys : List ℕ) → sets out at (xs ++ ys) ≡ sets (sets out at xs) (at + length xs) ys
sets-append out at [] ys = rw (add-zero at)
sets-append out at (x ∷ xs) ys = rw (add-suc at (length xs), sets-append (set out at x) (suc at) xs ys) (ap (λ (n : ℕ). sets (sets (set out at x) (suc at) xs) n ys) (omega arith))

-- three numbers, put one behind the other, make an entry
module _ (out : List ℕ) (at previous : ℕ) (site : Site) {step : ℕ} (is : step ≡ site.address - previous) {out₁ : List ℕ} {at₁ : ℕ}
    (e₁ : at₁ ≡ at + length (shortest step)) (o₁ : out₁ ≡ sets out at (shortest step)) where
  after-step : length (entry_of previous site) ≡ length (shortest step) + length (shortest site.line) + length (shortest site.column)
  after-step = rw is (entry-size previous site)

  pub room-line : at + length (entry_of previous site) ≤ length out → at₁ + length (shortest site.line) ≤ length out₁
  room-line h = omega (arith, after-step, e₁, ap length o₁, length-sets out at (shortest step))

  module _ {out₂ : List ℕ} {at₂ : ℕ} (e₂ : at₂ ≡ at₁ + length (shortest site.line)) (o₂ : out₂ ≡ sets out₁ at₁ (shortest site.line)) where
    pub room-column : at + length (entry_of previous site) ≤ length out → at₂ + length (shortest site.column) ≤ length out₂
    room-column h =
        omega (arith, after-step, e₁, e₂, ap length o₁, ap length o₂, length-sets out at (shortest step), length-sets out₁ at₁ (shortest site.line))

    pub put_three : {out₃ : List ℕ} {at₃ : ℕ} → at₃ ≡ at₂ + length (shortest site.column) → out₃ ≡ sets out₂ at₂ (shortest site.column) →
        (at₃ ≡ at + length (entry_of previous site)) × (out₃ ≡ sets out at (entry_of previous site))
    unfolding entry_of
    put_three e₃ o₃ =
        (omega (arith, after-step, e₁, e₂, e₃), rw (o₃, o₂, o₁, e₂, e₁, is, sets-append out at (shortest (site.address - previous)) (shortest site.line ++ shortest site.column), sets-append (sets out at (shortest (site.address - previous))) (at + length (shortest (site.address - previous))) (shortest site.line) (shortest site.column)))

-- ── a site of three single bytes ──

shortest-one : (v : ℕ) → v < 128 → shortest v ≡ v ∷ []
unfolding shortest
shortest-one v h = last-group 9 v h

module _ (previous : ℕ) (site : Site) {step : ℕ} (is : step ≡ site.address - previous) (low : bit_or (bit_or step site.line) site.column < 128) where
  pub plain_entry : entry_of previous site ≡ step ∷ (site.line ∷ (site.column ∷ []))
  unfolding entry_of
  plain_entry =
      rw (← is, shortest-one step (low-one step site.line site.column low), shortest-one site.line (low-two step site.line site.column low), shortest-one site.column (low-three step site.line site.column low))

  pub plain_size : 3 ≡ length (entry_of previous site)
  plain_size = sym (ap length plain_entry)

  pub plain-put : (out : List ℕ) (at : ℕ) → set (set (set out at step) (at + 1) site.line) (at + 2) site.column ≡ sets out at (entry_of previous site)
  plain-put out at =
      let two : at + 2 ≡ suc (suc at) = omega arith in
      rw (plain_entry, add-one at, two)

-- ── a number of one byte, of two, and of three ──

module _ (out : List ℕ) (at v : ℕ) where
  pub put_one : v < 128 → set out at v ≡ sets out at (shortest v)
  put_one h = rw (shortest-one v h)

  pub put_two : 128 ≤ v → v < 16384 → set (set out at (v % 128 + 128)) (at + 1) (v / 128) ≡ sets out at (shortest v)
  unfolding shortest
  put_two h k = rw (more-group 9 v h, last-group 8 (v / 128) (omega arith), add-one at)

  pub put-wide : 16384 ≤ v → v < 2097152 → set (set (set out at (v % 128 + 128)) (at + 1) (v / 128 % 128 + 128)) (at + 2) (v / 128 / 128) ≡ sets out at (shortest v)
  unfolding shortest
  put-wide h k =
      let two : at + 2 ≡ suc (suc at) = omega arith in
      rw (more-group 9 v (omega arith), more-group 8 (v / 128) (omega arith), last-group 7 (v / 128 / 128) (omega arith), add-one at, two)

-- a site whose step and column are single bytes
pub plain-line : (previous : ℕ) (site : Site) {step : ℕ} → step ≡ site.address - previous → bit_or step site.column < 128 →
    length (entry_of previous site) ≡ 2 + length (shortest site.line)
plain-line previous site {step} is low =
    let one : step < 128 = omega (arith, low-left step site.column) in
    let last : site.column < 128 = omega (arith, low-right step site.column) in
    omega (arith, entry-size previous site, ap (λ (n : ℕ). length (shortest n)) is, width_one step one, width_one site.column last)
