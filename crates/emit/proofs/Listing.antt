-- The loop over the rows of a table, for any kind of record: what is still to put comes to what was to put.
use Prim.Native.Nat.{ℕ, zero, suc, ◌+◌, ◌*◌, ◌-◌, ◌≤◌, ◌<◌}
use mathlib.Core.Path.{◌≡◌, refl, sym, ◌∙◌, ap}
use mathlib.Core.List.{List, [], ◌∷◌, ◌++◌, map}
use native.Mathlib.Nat.{add-mul, one-mul, zero-mul, le_trans, mul-le-mul_right}
use native.Mathlib.Omega.{arith}
use lib.ListN.{length, take, drop, length-map}
use lib.Seq.{drop-drop}
use Rattle.grammar.specs.Combinators.{put_all}
use Rattle.grammar.specs.Number.{shortest}
use Rattle.std.proofs.lemmas.List.{map-id}
use Rattle.rows.specs.Back.{cut, records_of}
use Rattle.written.specs.Put.{put_list}
use Rattle.emit.specs.Puts.{Puts}
use Rattle.emit.proofs.Laws.{puts-same, puts_then, Onward, onward-none, onward-more, onward-done}

-- ── the rows from one place to another ──

abbrev pub between : {X : Type 0} → ℕ → (List ℕ → X) → List ℕ → ℕ → ℕ → List X
between w of t j end = records_of w of (end - j) (drop (j * w) t)

module _ {X : Type 0} (w : ℕ) (of : List ℕ → X) where
  pub length-records : (n : ℕ) (t : List ℕ) → length (records_of w of n t) ≡ n
  length-records zero t = refl
  length-records (suc n) t = ap suc (length-records n (drop w t))

  pub between_more : (t : List ℕ) (j end : ℕ) → j < end → between w of t j end ≡ of (take w (drop (j * w) t)) ∷ between w of t (j + 1) end
  between_more t j end h =
      let more : end - j ≡ suc (end - (j + 1)) = omega arith in
      let behind : j * w + w ≡ (j + 1) * w = sym (add-mul j 1 w ∙ ap (λ (k : ℕ). j * w + k) (one-mul w)) in
      rw (more, drop-drop w (j * w) t, behind)

  pub between_none : (t : List ℕ) (j end : ℕ) → end ≤ j → between w of t j end ≡ []
  between_none t j end h = let none : end - j ≡ 0 = omega arith in rw none

  pub between-from : (t : List ℕ) (from n : ℕ) → between w of t from (from + n) ≡ records_of w of n (drop (from * w) t)
  between-from t from n = let all : from + n - from ≡ n = omega arith in rw all

  pub between-all : (t : List ℕ) (n : ℕ) → between w of t 0 n ≡ records_of w of n t
  between-all t n = let all : n - 0 ≡ n = omega arith in rw (all, zero-mul w)

-- ── the loop ──

abbrev pub rows : ℕ → List ℕ → ℕ → ℕ → List (List ℕ)
rows w = between w (λ row. row)

pub rows-all : (w : ℕ) (t : List ℕ) (n : ℕ) → rows w t 0 n ≡ cut w n t
rows-all w t n = between-all w (λ row. row) t n ∙ map-id (cut w n t)

-- the rows before j are put
pub record Listing (bytes : List ℕ → List ℕ) (w : ℕ) (t all e : List ℕ) (at j end : ℕ) (out : List ℕ) (place : ℕ) : Type 0 where
  pub inside : end * w ≤ length t
  pub few : j ≤ end
  pub going : Onward all e at (put_all bytes (rows w t j end)) out place

pub listing-none : {bytes : List ℕ → List ℕ} {w : ℕ} {t m : List ℕ} {mid : ℕ} (from n : ℕ) → (from + n) * w ≤ length t →
    Listing bytes w t (put_all bytes (cut w n (drop (from * w) t))) m mid from (from + n) m mid
listing-none {w = w} {t = t} from n h =
    record { inside = h; few = omega arith; going = rw (between-from w (λ row. row) t from n, map-id (cut w n (drop (from * w) t))) onward-none }

module _ {bytes : List ℕ → List ℕ} {w : ℕ} {t all e : List ℕ} {at j end : ℕ} {out : List ℕ} {place : ℕ} (g : Listing bytes w t all e at j end out place) where
  -- the next row is there
  pub listing-row : j < end → (j + 1) * w ≤ length t
  listing-row h = le_trans (mul-le-mul_right w (omega arith)) g.inside

  pub listing-more : {x : List ℕ} {next : ℕ} → j < end → Puts (bytes (take w (drop (j * w) t))) out place x next →
      Listing bytes w t all e at (j + 1) end x next
  listing-more h p =
      record { inside = g.inside; few = omega arith; going = onward-more (rw (between_more w (λ row. row) t j end h) at g.going) p }

  pub listing-done : end ≤ j → Puts all e at out place
  listing-done h = onward-done (rw (between_none w (λ row. row) t j end h) at g.going)

-- a count, and as many records
pub counted : {X : Type 0} (put : X → List ℕ) (n : ℕ) (xs : List X) {e m x : List ℕ} {at mid next : ℕ} → length xs ≡ n →
    Puts (shortest n) e at m mid → Puts (put_all put xs) m mid x next → Puts (put_list put xs) e at x next
counted put n xs counts p q = puts_then (rw (← counts) at p) q

pub length-cut : (w n : ℕ) (t : List ℕ) → length (cut w n t) ≡ n
length-cut w zero t = refl
length-cut w (suc n) t = ap suc (length-cut w n (drop w t))

pub listed-rows : {bytes : List ℕ → List ℕ} {w : ℕ} {t e m x : List ℕ} {at mid next j : ℕ} (from n : ℕ) → Puts (shortest n) e at m mid →
    Listing bytes w t (put_all bytes (cut w n (drop (from * w) t))) m mid j (from + n) x next → from + n ≤ j →
    Puts (put_list bytes (cut w n (drop (from * w) t))) e at x next
listed-rows {bytes = bytes} {w = w} {t = t} from n p g h =
    counted bytes n (cut w n (drop (from * w) t)) (length-cut w n (drop (from * w) t)) p (listing-done g h)

-- ── records that are made of others ──

pub all_map : {X Y : Type 0} (put : Y → List ℕ) (f : X → Y) (xs : List X) → put_all (λ x. put (f x)) xs ≡ put_all put (map f xs)
all_map put f [] = refl
all_map put f (x ∷ xs) = ap (λ (l : List ℕ). put (f x) ++ l) (all_map put f xs)

pub list-map : {X Y : Type 0} (put : Y → List ℕ) (f : X → Y) (xs : List X) → put_list (λ x. put (f x)) xs ≡ put_list put (map f xs)
list-map put f xs = rw (length-map xs f, all_map put f xs)

-- rows as the records that they mean
pub rows-meant : {X : Type 0} (put : X → List ℕ) (of : List ℕ → X) (rows : List (List ℕ)) {e x : List ℕ} {at next : ℕ} →
    Puts (put_list (λ row. put (of row)) rows) e at x next → Puts (put_list put (map of rows)) e at x next
rows-meant put of rows p = puts-same (list-map put of rows) p
