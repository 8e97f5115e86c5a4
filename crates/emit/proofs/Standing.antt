-- Tables of constants that rules 1, 5 and 6 have found sound: as many constants stand there as are owed, with all that they own.
use Prim.Native.Nat.{ℕ, zero, suc, ◌+◌, ◌≤◌}
use mathlib.Core.Bool.{Bool, true, false, ◌&&◌, ◌||◌}
use mathlib.Core.Path.{◌≡◌, refl}
use mathlib.Core.List.{List, [], ◌∷◌, map}
use native.Mathlib.Nat.{zero-add, suc-add, add-zero}
use native.Mathlib.Omega.{arith}
use borrow.Author.Tests.{leb-true, eqb-true}
use lib.Dec.{leb, eqb}
use Rattle.rows.specs.Back.{word, cut, keyed_of, constant_of}
use Rattle.rows.specs.Tree.{items_of, grow}
use Rattle.format.specs.Artifact as A
use Rattle.model.specs.Lent.{every}
use Rattle.model.specs.Rules.{tag, owns, exactly, known_constant, Behind, behind, too_deep, and_then, within, not_too_deep}
use Rattle.emit.specs.Constants.{Enough, ItemsStand, ConstantsFit}
use Rattle.emit.proofs.Listing.{between-all}

-- ── a known row owns as many items as its constant says ──

-- a tag up to 0B, one by one
tags : (P : ℕ → Type 0) → P 0 → P 1 → P 2 → P 3 → P 4 → P 5 → P 6 → P 7 → P 8 → P 9 → P 10 → P 11 → (n : ℕ) → n ≤ 11 → P n
tags P a b c d e f g h i j k l zero _ = a
tags P a b c d e f g h i j k l (suc zero) _ = b
tags P a b c d e f g h i j k l (suc (suc zero)) _ = c
tags P a b c d e f g h i j k l (suc (suc (suc zero))) _ = d
tags P a b c d e f g h i j k l (suc (suc (suc (suc zero)))) _ = e
tags P a b c d e f g h i j k l (suc (suc (suc (suc (suc zero))))) _ = f
tags P a b c d e f g h i j k l (suc (suc (suc (suc (suc (suc zero)))))) _ = g
tags P a b c d e f g h i j k l (suc (suc (suc (suc (suc (suc (suc zero))))))) _ = h
tags P a b c d e f g h i j k l (suc (suc (suc (suc (suc (suc (suc (suc zero)))))))) _ = i
tags P a b c d e f g h i j k l (suc (suc (suc (suc (suc (suc (suc (suc (suc zero))))))))) _ = j
tags P a b c d e f g h i j k l (suc (suc (suc (suc (suc (suc (suc (suc (suc (suc zero)))))))))) _ = k
tags P a b c d e f g h i j k l (suc (suc (suc (suc (suc (suc (suc (suc (suc (suc (suc zero))))))))))) _ = l
tags P a b c d e f g h i j k l (suc (suc (suc (suc (suc (suc (suc (suc (suc (suc (suc (suc n)))))))))))) few = absurd (omega arith)

module _ (row : List ℕ) where
  abbrev Same : ℕ → Type 0
  Same n = word row 0 ≡ n → owns row ≡ items_of (constant_of row)

  listed : (n : ℕ) → n ≤ 11 → Same n
  listed =
      tags Same (λ e. rw e) (λ e. rw e) (λ e. rw e) (λ e. rw e) (λ e. rw e) (λ e. rw e) (λ e. rw e) (λ e. rw e) (λ e. rw e) (λ e. rw e) (λ e. rw e) (λ e. rw e)

  owns-items : known_constant row ≡ true → owns row ≡ items_of (constant_of row)
  owns-items known = go (leb (tag row) 0x0B) refl known
    where
      pointer : (b c : Bool) → eqb (tag row) 0x0D ≡ b → b && c ≡ true → owns row ≡ items_of (constant_of row)
      pointer true c e h = let is : word row 0 ≡ 0x0D = eqb-true _ _ e in rw is
      pointer false c e h = let z : ◌≡◌ {A = Bool} false true = h in absurd (no z)
        where
          no : ◌≡◌ {A = Bool} false true → ⊥
          no z = let y : ◌≡◌ {A = ℕ} 0 1 = cc in omega arith

      go : (b : Bool) → leb (tag row) 0x0B ≡ b → b || (eqb (tag row) 0x0D && (eqb (word row 1) 0x81 || eqb (word row 1) 0x82)) ≡ true →
          owns row ≡ items_of (constant_of row)
      go true e h = listed (word row 0) (leb-true _ _ e) refl
      go false e h = pointer (eqb (tag row) 0x0D) _ refl h

-- ── n constants, behind which others are owed ──

pub record Stood (levels n extra : ℕ) (rows left : List (List ℕ)) : Type 0 where
  pub enough : Enough levels n (map keyed_of rows)
  pub rest : (grow levels n (map keyed_of rows)).rest ≡ map keyed_of left
  pub exact : exactly left extra ≡ true
  pub known : every known_constant left ≡ true

-- a list all of whose rows are known
first-known : (row : List ℕ) (rows : List (List ℕ)) → every known_constant (row ∷ rows) ≡ true → known_constant row ≡ true
first-known row rows h = go (known_constant row) refl h
  where
    go : (b : Bool) → known_constant row ≡ b → b && every known_constant rows ≡ true → known_constant row ≡ true
    go true e h = e
    go false e h = let y : ◌≡◌ {A = ℕ} 0 1 = cc in absurd (omega arith)

others-known : (row : List ℕ) (rows : List (List ℕ)) → every known_constant (row ∷ rows) ≡ true → every known_constant rows ≡ true
others-known row rows h = go (known_constant row) h
  where
    go : (b : Bool) → b && every known_constant rows ≡ true → every known_constant rows ≡ true
    go true h = h
    go false h = let y : ◌≡◌ {A = ℕ} 0 1 = cc in absurd (omega arith)

same_rows : {a b : List (List ℕ)} → behind a ≡ behind b → a ≡ b
same_rows e = cc

never-deep : {a : List (List ℕ)} → too_deep ≡ behind a → ⊥
never-deep e = let y : ◌≡◌ {A = ℕ} 0 1 = cc in omega arith

none-owed : (owed : ℕ) → exactly [] owed ≡ true → owed ≡ 0
unfolding exactly
none-owed owed h = eqb-true owed 0 h

one-owed : (row : List ℕ) (rows : List (List ℕ)) (owed : ℕ) → exactly (row ∷ rows) (suc owed) ≡ true → exactly rows (owns row + owed) ≡ true
unfolding exactly
one-owed row rows owed h = h

-- none is wanted
stood-none : {levels extra : ℕ} {rows left : List (List ℕ)} → Enough levels 0 (map keyed_of rows) → (grow levels 0 (map keyed_of rows)).rest ≡ map keyed_of rows →
    every known_constant rows ≡ true → exactly rows (0 + extra) ≡ true → behind rows ≡ behind left → Stood levels 0 extra rows left
stood-none {extra = extra} {left = left} enough rest known exact e =
    rw (← same_rows e) (record { enough = enough; rest = rest; exact = rw (zero-add extra) at exact; known = known })

-- one, its items, and the others
stood-one : {levels n extra : ℕ} {row : List ℕ} {rows mid left : List (List ℕ)} → known_constant row ≡ true →
    Stood levels (owns row) (n + extra) rows mid → Stood (suc levels) n extra mid left → Stood (suc levels) (suc n) extra (row ∷ rows) left
stood-one {levels} {n} {extra} {row} {rows} {mid} known items others =
    let same : owns row ≡ items_of (constant_of row) = owns-items row known in
    let rest : (grow levels (items_of (constant_of row)) (map keyed_of rows)).rest ≡ map keyed_of mid = rw same at items.rest in
    record {
      enough = (rw same at items.enough, rw rest others.enough);
      rest = rw rest others.rest;
      exact = others.exact;
      known = others.known;
    }

by-items : (levels n : ℕ) {left : List (List ℕ)} (w : Behind) {R : Type 0} → and_then w (within (suc levels) n) ≡ behind left →
    ((mid : List (List ℕ)) → w ≡ behind mid → within (suc levels) n mid ≡ behind left → R) → R
by-items levels n (behind mid) e then = then mid refl e
by-items levels n too_deep e then = absurd (never-deep e)

pub stands : (levels n extra : ℕ) (rows left : List (List ℕ)) → every known_constant rows ≡ true → exactly rows (n + extra) ≡ true →
    within levels n rows ≡ behind left → Stood levels n extra rows left
unfolding within
stands zero zero extra rows left known exact e = stood-none tt refl known exact e
stands zero (suc n) extra rows left known exact e = absurd (never-deep e)
stands (suc levels) zero extra rows left known exact e = stood-none tt refl known exact e
stands (suc levels) (suc n) extra [] left known exact e = let z : suc n + extra ≡ 0 = none-owed _ exact in absurd (omega arith)
stands (suc levels) (suc n) extra (row ∷ rows) left known exact e =
    let owed : exactly rows (owns row + (n + extra)) ≡ true = one-owed row rows (n + extra) (rw (suc-add n extra) at exact) in
    by-items levels n (within levels (owns row) rows) e (λ mid first second.
    let items : Stood levels (owns row) (n + extra) rows mid = stands levels (owns row) (n + extra) rows mid (others-known row rows known) owed first in
    stood-one (first-known row rows known) items (stands (suc levels) n extra mid left items.known items.exact second))

-- what the rules have tested is what the writer of constants asks
pub fit-stand : {t : List ℕ} {used tops : ℕ} → ConstantsFit t used tops → ItemsStand A.levels tops t used 0
fit-stand {t} {used} {tops} fit = record { inside = fit.counts; few = omega arith; enough = rw (between-all 8 keyed_of t used) (go (within A.levels tops (cut 8 used t)) refl fit.shallow) }
  where
    go : (w : Behind) → within A.levels tops (cut 8 used t) ≡ w → not_too_deep w ≡ true → Enough A.levels tops (map keyed_of (cut 8 used t))
    go (behind left) e h = (stands A.levels tops 0 (cut 8 used t) left fit.known (rw (add-zero tops) fit.exact) e).enough
    go too_deep e h = let y : ◌≡◌ {A = ℕ} 0 1 = cc in absurd (omega arith)
