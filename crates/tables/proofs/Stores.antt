-- Runs of stores (`sets` of the library): one behind the other, a row in front of what stands behind it, and onto zeros.
use Prim.Native.Nat.{ℕ, zero, suc, ◌+◌, ◌-◌, ◌≤◌, ◌<◌}
use mathlib.Core.Path.{◌≡◌, refl, sym, ◌∙◌, ap}
use mathlib.Core.List.{List, [], ◌∷◌, ◌++◌, append-nil}
use native.Mathlib.Nat.{add-zero, add-suc, suc-add, add_assoc, zero-add}
use native.Mathlib.Numerals.{add-one}
use native.Mathlib.Omega.{arith}
use lib.ListN.{length, get_or, set, drop, replicate, length-replicate}
use lib.Seq.{sets, sets-eq, set_comm, drop-cons, take_all}
use Rattle.tables.specs.Table.{filled, front}

-- side by side is one run of both
pub sets-append : (t : List ℕ) (i : ℕ) (ws vs : List ℕ) → sets t i (ws ++ vs) ≡ sets (sets t i ws) (i + length ws) vs
sets-append t i [] vs = rw (add-zero i)
sets-append t i (w ∷ ws) vs =
    sets-append (set t i w) (suc i) ws vs
    ∙ ap (λ (k : ℕ). sets (sets (set t i w) (suc i) ws) k vs) (suc-add i (length ws) ∙ sym (add-suc i (length ws)))

-- a store in front of a run commutes with it
set-sets : (t : List ℕ) (i j w : ℕ) (ws : List ℕ) → i < j → set (sets t j ws) i w ≡ sets (set t i w) j ws
set-sets t i j w [] h = refl
set-sets t i j w (v ∷ ws) h =
    set-sets (set t j v) i (suc j) w ws (omega arith) ∙ ap (λ (l : List ℕ). sets l (suc j) ws) (set_comm t j i v w (λ e. omega arith))

sets-sets : (t : List ℕ) (i j : ℕ) (row ws : List ℕ) → i + length row ≤ j → sets (sets t j ws) i row ≡ sets (sets t i row) j ws
sets-sets t i j [] ws h = refl
sets-sets t i j (w ∷ row) ws h =
    ap (λ (l : List ℕ). sets l (suc i) row) (set-sets t i j w ws (omega arith))
    ∙ sets-sets (set t i w) (suc i) j row ws (omega arith)

-- a row stored after what stands behind it
pub sets-before : (t : List ℕ) (i : ℕ) (row ws : List ℕ) → sets (sets t (i + length row) ws) i row ≡ sets t i (row ++ ws)
sets-before t i row ws = sets-sets t i (i + length row) row ws (omega arith) ∙ sym (sets-append t i row ws)

-- one store more of a row
pub sets-next : (t : List ℕ) (at i : ℕ) (row : List ℕ) → i < length row →
    sets t (at + i) (drop i row) ≡ sets (set t (at + i) (get_or row i 0)) (at + (i + 1)) (drop (i + 1) row)
sets-next t at i row h = rw (drop-cons row i 0 h, ← add_assoc at i 1, add-one (at + i), add-one i)

-- words that fit a cleared table: they stand in front, and zeros behind
pub filled-front : (size : ℕ) (ws : List ℕ) → length ws ≤ size → filled size ws ≡ ws ++ replicate (size - length ws) 0
filled-front size ws h =
    sets-eq ws (replicate size 0) 0 (rw (length-replicate {A = ℕ} size 0, zero-add (length ws)) h)
    ∙ rw (zero-add (length ws)) (ap (λ (l : List ℕ). ws ++ l) (drop-zeros (length ws) size))
  where
    drop-zeros : (n size : ℕ) → drop {A = ℕ} n (replicate size 0) ≡ replicate (size - n) 0
    drop-zeros zero size = let e : size - 0 ≡ size = omega arith in rw e
    drop-zeros (suc n) zero = let e : 0 - suc n ≡ 0 = omega arith in rw e
    drop-zeros (suc n) (suc size) = let e : suc size - suc n ≡ size - n = omega arith in rw e (drop-zeros n size)

-- ── words in front, and zeros behind them ──

pub front-all : (t : List ℕ) (n : ℕ) → length t ≤ n → front n t ≡ t
front-all t n h = let e : length t - n ≡ 0 = omega arith in rw (e, take_all n t h) (append-nil t)

sets-none : (i : ℕ) (ws : List ℕ) → sets {A = ℕ} [] i ws ≡ []
sets-none i [] = refl
sets-none i (w ∷ ws) = sets-none (suc i) ws

sets-cons : (x : ℕ) (t : List ℕ) (i : ℕ) (ws : List ℕ) → sets (x ∷ t) (suc i) ws ≡ x ∷ sets t i ws
sets-cons x t i [] = refl
sets-cons x t i (w ∷ ws) = sets-cons x (set t i w) (suc i) ws

-- words stored from the front of any table, with zeros behind them, are those of a cleared one
pub front-filled : (t ws : List ℕ) → front (length ws) (sets t 0 ws) ≡ filled (length t) ws
front-filled [] ws = rw (sets-none 0 ws) (front-all [] (length ws) (omega arith))
front-filled (x ∷ t) [] = let e : suc (length t) - 0 ≡ suc (length t) = omega arith in rw e
front-filled (x ∷ t) (w ∷ ws) =
    let e : suc (length (sets t 0 ws)) - suc (length ws) ≡ length (sets t 0 ws) - length ws = omega arith in
    rw (sets-cons w t 0 ws, sets-cons w (replicate (length t) 0) 0 ws, e) (ap (λ (l : List ℕ). w ∷ l) (front-filled t ws))
