-- Mixing the bytes of a list a pair at a time.
use Rattle.std.proofs.Common.{◌≡◌, ℕ, zero, suc, ◌+◌, ◌*◌, ◌<◌, ◌≤◌, List, [], length, get_or, take, drop, refl, ap, ◌∙◌, arith, drop-cons, add-one}
use Rattle.std.specs.Simd.{first_chunks}
use Rattle.std.proofs.lemmas.List.{get_or-take, get_or-drop, drop-drop}
use Rattle.debug_id.specs.DebugId.{mixed, mixed_all}

-- a pair is two neighbours
pair_is : (n i : ℕ) (s : List ℕ) → i < n → get_or (first_chunks 2 n s) i [] ≡ take 2 (drop (i * 2) s)
pair_is zero i s h = absurd (omega arith)
pair_is (suc n) zero s h = refl
pair_is (suc n) (suc i) s h =
    let e : 2 + i * 2 ≡ suc i * 2 = omega arith in
    pair_is n i (drop 2 s) (omega arith) ∙ ap (take 2) (drop-drop (i * 2) 2 s ∙ ap (λ (k : ℕ). drop k s) e)

next : (h : ℕ) (s : List ℕ) (i : ℕ) → i < length s → mixed_all h (drop i s) ≡ mixed_all (mixed h (get_or s i 0)) (drop (i + 1) s)
next h s i lt = rw (add-one, drop-cons s i 0)

-- and behind it the next one begins
pub next_pair : (h : ℕ) (s : List ℕ) (n i : ℕ) → n * 2 ≤ length s → i < n → mixed_all h (drop (i * 2) s) ≡
    mixed_all (mixed (mixed h (get_or (get_or (first_chunks 2 n s) i []) 0 0)) (get_or (get_or (first_chunks 2 n s) i []) 1 0)) (drop ((i + 1) * 2) s)
next_pair h s n i all lt =
    let e : i * 2 + 1 + 1 ≡ (i + 1) * 2 = omega arith in
    let z : i * 2 + 0 ≡ i * 2 = omega arith in
    rw (pair_is n i s lt, get_or-take 2 (drop (i * 2) s) 0 0 (omega arith), get_or-take 2 (drop (i * 2) s) 1 0 (omega arith), get_or-drop (i * 2) s 0 0, get_or-drop (i * 2) s 1 0, z, ← e)
    (next h s (i * 2) (omega arith) ∙ next (mixed h (get_or s (i * 2) 0)) s (i * 2 + 1) (omega arith))
