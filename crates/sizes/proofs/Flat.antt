-- The loop over the rows of a table, for any kind of record: the place behind what is still to count comes to the place behind all.
use Prim.Native.Nat.{ℕ, ◌+◌, ◌*◌, ◌≤◌, ◌<◌, min}
use mathlib.Core.Path.{◌≡◌, ap}
use mathlib.Core.List.{List, map}
use native.Mathlib.Nat.{le_trans, mul-le-mul_right}
use native.Mathlib.Omega.{arith}
use lib.ListN.{length, take, drop, length-append}
use Rattle.grammar.specs.Combinators.{put_all}
use Rattle.grammar.specs.Number.{shortest}
use Rattle.rows.specs.Back.{cut, records_of}
use Rattle.written.specs.Put.{put_list}
use Rattle.emit.proofs.Listing.{between_more, between_none, rows, rows-all, length-records, all_map}
use Rattle.sizes.specs.Counts.{Counts}
use Rattle.sizes.proofs.Laws.{counts_same, counts-then}

-- the rows before j are counted
pub record Flat (bytes : List ℕ → List ℕ) (w : ℕ) (t : List ℕ) (at used j place : ℕ) : Type 0 where
  pub inside : used * w ≤ length t
  pub few : j ≤ used
  pub near : place ≤ 1048577
  pub going : min (place + length (put_all bytes (rows w t j used))) 1048577 ≡ min (at + length (put_all bytes (cut w used t))) 1048577

pub flat-none : {bytes : List ℕ → List ℕ} {w : ℕ} {t : List ℕ} {at used : ℕ} → used * w ≤ length t → at ≤ 1048577 → Flat bytes w t at used 0 at
flat-none {w = w} {t = t} {used = used} fits near =
    record { inside = fits; few = omega arith; near = near; going = rw (rows-all w t used) }

module _ {bytes : List ℕ → List ℕ} {w : ℕ} {t : List ℕ} {at used j place : ℕ} (g : Flat bytes w t at used j place) where
  -- the next row is there
  pub flat-row : j < used → (j + 1) * w ≤ length t
  flat-row h = le_trans (mul-le-mul_right w (omega arith)) g.inside

  abbrev row : List ℕ
  row = take w (drop (j * w) t)

  pub flat_on : {words : List ℕ} {next : ℕ} → j < used → words ≡ row → Counts (bytes words) place next → Flat bytes w t at used (j + 1) next
  flat_on {next = next} h is p =
      let split : length (put_all bytes (rows w t j used)) ≡ length (bytes row) + length (put_all bytes (rows w t (j + 1) used)) =
      rw (between_more w (λ row. row) t j used h) (length-append (bytes row) (put_all bytes (rows w t (j + 1) used))) in
      let here : next ≡ min (place + length (bytes row)) 1048577 = rw (← is) p.next in
      record { inside = g.inside; few = omega arith; near = omega arith; going = omega (arith, split, g.going) }

  pub flat-done : used ≤ j → Counts (put_all bytes (cut w used t)) at place
  flat-done h =
      let none : length (put_all bytes (rows w t j used)) ≡ 0 = rw (between_none w (λ row. row) t j used h) in
      record { next = omega (arith, none, g.near, g.going) }

-- rows as the records that they mean
pub rows-counted : {X : Type 0} (put : X → List ℕ) (of : List ℕ → X) (rows : List (List ℕ)) {at next : ℕ} →
    Counts (put_all (λ row. put (of row)) rows) at next → Counts (put_all put (map of rows)) at next
rows-counted put of rows p = counts_same (ap length (all_map put of rows)) p

-- a count, and as many records
pub listed : {X : Type 0} (put : X → List ℕ) (n : ℕ) (xs : List X) {size at mid next : ℕ} → length xs ≡ n → size ≡ length (shortest n) →
    mid ≡ min (at + size) 1048577 → Counts (put_all put xs) mid next → Counts (put_list put xs) at next
listed put n xs {size} {at} {mid} counts long first rest =
    let count : Counts (shortest (length xs)) at mid = record { next = rw (counts, ← long) first } in
    counts-then count rest

pub listed-rows : {X : Type 0} (put : X → List ℕ) (w : ℕ) (of : List ℕ → X) (n : ℕ) (t : List ℕ) {size at mid next : ℕ} → size ≡ length (shortest n) →
    mid ≡ min (at + size) 1048577 → Counts (put_all (λ row. put (of row)) (cut w n t)) mid next → Counts (put_list put (records_of w of n t)) at next
listed-rows put w of n t long first rest =
    listed put n (records_of w of n t) (length-records w of n t) long first (rows-counted put of (cut w n t) rest)
