-- What a number comes to where its next bytes are there: by their end marks.
use Rattle.std.proofs.Common.{◌≡◌, ℕ, zero, suc, ◌+◌, ◌*◌, ◌%◌, ◌^◌, ◌<◌, ◌≤◌, Bool, true, false, ltb, List, [], ◌∷◌, length, get_or, refl, ◌∙◌, ap₂, add-zero, add_assoc, arith, ltb-false, ltb-true, le-ltb, if◌then◌else◌}
use Rattle.grammar.specs.declared.Cursor.{Cursor}
use Rattle.grammar.specs.Outcome.{advanced, got}
use Rattle.grammar.specs.Number.{number}
use Rattle.varint.specs.Holding.{Holding}
use Rattle.varint.specs.Word.{bytes_at}
use Rattle.varint.proofs.Word.{ends, taken}
use Rattle.varint.proofs.Groups.{seven-more, holding-last, holding-more}

-- the payloads up to the first byte that ends a number, side by side
unfoldable pub value : List ℕ → ℕ
value [] = 0
value (b ∷ bs) = if ltb b 128 then b else (b % 128 + 128 * value bs)

group-more : (v b rest k : ℕ) → v + b % 128 * 2 ^ (7 * k) + rest * 2 ^ (7 * (k + 1)) ≡ v + (b % 128 + 128 * rest) * 2 ^ (7 * k)
group-more v b rest k = rw (seven-more k) (omega arith)

-- some groups are held, and of the next bytes one ends the number
pub holding-ended : (n : ℕ) {s : List ℕ} {c : Cursor} {v k : ℕ} → Holding s c v k → k + n ≤ 9 → c.at + k + n ≤ length s → 0 < ends (bytes_at s (c.at + k) n) →
    number 64 s c ≡ got (v + value (bytes_at s (c.at + k) n) * 2 ^ (7 * k)) (advanced c (k + taken (bytes_at s (c.at + k) n)))
unfolding bytes_at value taken ends
holding-ended zero g few room some = absurd (omega arith)
holding-ended (suc n) {s} {c} {v} {k} g few room some =
    go (λ l q. holding-ended n (holding-more g (omega arith) (omega arith) l) (omega arith) (omega arith) q) (ltb (get_or s (c.at + k) 0) 128) refl
  where
    go : (128 ≤ get_or s (c.at + k) 0 → 0 < ends (bytes_at s (c.at + (k + 1)) n) →
        number 64 s c ≡ got (v + get_or s (c.at + k) 0 % 128 * 2 ^ (7 * k) + value (bytes_at s (c.at + (k + 1)) n) * 2 ^ (7 * (k + 1))) (advanced c (k + 1 + taken (bytes_at s (c.at + (k + 1)) n)))) →
        (t : Bool) → ltb (get_or s (c.at + k) 0) 128 ≡ t →
        number 64 s c
        ≡ got (v + (if t then get_or s (c.at + k) 0 else (get_or s (c.at + k) 0 % 128 + 128 * value (bytes_at s (c.at + k + 1) n))) * 2 ^ (7 * k))
        (advanced c (k + (if t then 1 else suc (taken (bytes_at s (c.at + k + 1) n)))))
    go rest true e =
        let l : get_or s (c.at + k) 0 < 128 = ltb-true _ _ e in
        let same : get_or s (c.at + k) 0 % 128 ≡ get_or s (c.at + k) 0 = omega arith in
        rw same at (holding-last g (omega arith) (omega arith) l)
    go rest false e =
        let l : 128 ≤ get_or s (c.at + k) 0 = ltb-false _ _ e in
        rw (add_assoc c.at k 1)
        (rest l (rw (← add_assoc c.at k 1) (omega arith))
        ∙ ap₂ (λ (x y : ℕ). got x (advanced c y)) (group-more v (get_or s (c.at + k) 0) (value (bytes_at s (c.at + (k + 1)) n)) k) (omega arith))

-- or none of them does
pub holding-endless : (n : ℕ) {s : List ℕ} {c : Cursor} {v k : ℕ} → Holding s c v k → k + n ≤ 9 → c.at + k + n ≤ length s → ends (bytes_at s (c.at + k) n) ≡ 0 →
    Holding s c (v + value (bytes_at s (c.at + k) n) * 2 ^ (7 * k)) (k + n)
unfolding bytes_at value ends
holding-endless zero {v = v} {k = k} g few room none =
    let same : v + 0 * 2 ^ (7 * k) ≡ v = omega arith in
    rw (add-zero k, same) g
holding-endless (suc n) {s} {c} {v} {k} g few room none =
    let l : 128 ≤ get_or s (c.at + k) 0 = omega arith in
    let rest : Holding s c (v + get_or s (c.at + k) 0 % 128 * 2 ^ (7 * k) + value (bytes_at s (c.at + (k + 1)) n) * 2 ^ (7 * (k + 1))) (k + 1 + n) =
    holding-endless n (holding-more g (omega arith) (omega arith) l) (omega arith) (omega arith) (rw (← add_assoc c.at k 1) (omega arith)) in
    let one : k + 1 + n ≡ k + suc n = omega arith in
    rw (add_assoc c.at k 1, le-ltb (get_or s (c.at + k) 0) 128 l)
    (rw (group-more v (get_or s (c.at + k) 0) (value (bytes_at s (c.at + (k + 1)) n)) k, one) at rest)
