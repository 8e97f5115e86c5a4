-- The test agrees with the RFC's syntax: a list passes exactly where it is UTF8-octets.
-- What passes is cut into characters from the front; what is made of characters passes because no first range of the table
-- meets another, which one computed test of the table says. Assumes nothing.
use mathlib.Core.Path.{◌≡◌, refl, sym, subst, ap, ◌∙◌}
use mathlib.Core.Bool.{Bool, true, false, ◌&&◌}
use mathlib.Core.List.Memᴰ
use mathlib.Core.List.{List, [], ◌∷◌, ◌++◌, Memᴰ}
use Prim.Native.Nat.{ℕ, suc, ◌≤◌}
use mathlib.Core.Logic.{⊎_elim}
use native.Mathlib.Omega.{arith}
use lib.Dec.{T, leb, leb→le}
use mir.Facts.{and_yes}
use borrow.Author.Tests.{le-leb, lt-leb}
use Rattle.utf8.specs.Syntax.{Range, ◌to◌, UTF8-char, Matches, done, byte, UTF8-octets, none, char}
use Rattle.utf8.specs.Check.{State, owes, refused, within, pick, first, next, passes, is_utf8}
use Rattle.utf8.proofs.Laws.{nothing-is-text, refused-stays}

refused-fails : (s : List ℕ) → T (passes refused s) → ⊥
refused-fails s t = subst T (refused-stays s) t

-- a byte in a range
record Inside (low high b : ℕ) : Type 0 where
  above : low ≤ b
  below : b ≤ high

inside : (low high b : ℕ) → T (within (low to high) b) → Inside low high b
inside low high b t =
    let both = and_yes (leb low b) (leb b high) t in
    record { above = leb→le low b both.0; below = leb→le b high both.1 }

-- a row of the table that the first byte b opens, and that the bytes s go on with
record Opened (rows : List (List Range)) (b : ℕ) (s : List ℕ) : Type 0 where
  low : ℕ
  high : ℕ
  row : List Range
  listed : Memᴰ (low to high ∷ row) rows
  fits : Inside low high b
  rest : T (passes (owes row) s)

later : {rows : List (List Range)} {b : ℕ} {s : List ℕ} (row : List Range) → Opened rows b s → Opened (row ∷ rows) b s
later row o =
    record { low = o.low; high = o.high; row = o.row; listed = Memᴰ.tail o.listed; fits = o.fits; rest = o.rest }

opened-by : (low high : ℕ) (row : List Range) (rows : List (List Range)) (b : ℕ) (s : List ℕ) (test : Bool)
    → test ≡ within (low to high) b
    → (T (passes (first rows b) s) → Opened rows b s)
    → T (passes (pick test (owes row) (first rows b)) s)
    → Opened ((low to high ∷ row) ∷ rows) b s
opened-by low high row rows b s true e others t =
    record { low = low; high = high; row = row; listed = Memᴰ.head refl; fits = inside low high b (subst T e tt); rest = t }
opened-by low high row rows b s false e others t = later (low to high ∷ row) (others t)

opened : (rows : List (List Range)) (b : ℕ) (s : List ℕ) → T (passes (first rows b) s) → Opened rows b s
unfolding first
opened [] b s t = absurd (refused-fails s t)
opened ([] ∷ rows) b s t = later [] (opened rows b s t)
opened ((low to high ∷ row) ∷ rows) b s t =
    opened-by low high row rows b s (within (low to high) b) refl (opened rows b s) t

-- bytes that begin with what a row asks, and go on with whole characters
record Cut (row : List Range) (s : List ℕ) : Type 0 where
  front : List ℕ
  back : List ℕ
  whole : front ++ back ≡ s
  matches : Matches row front
  rest : UTF8-octets back

cut-byte : (low high : ℕ) (row : List Range) (b : ℕ) (s : List ℕ) (test : Bool)
    → test ≡ within (low to high) b
    → ((left : List Range) → T (passes (owes left) s) → Cut left s)
    → T (passes (pick test (owes row) refused) s)
    → Cut (low to high ∷ row) (b ∷ s)
cut-byte low high row b s true e cuts t =
    let c : Cut row s = cuts row t in
    let fits : Inside low high b = inside low high b (subst T e tt) in
    record {
      front = b ∷ c.front;
      back = c.back;
      whole = ap (◌∷◌ b) c.whole;
      matches = byte fits.above fits.below c.matches;
      rest = c.rest;
    }
cut-byte low high row b s false e cuts t = absurd (refused-fails s t)

cut : (row : List Range) (s : List ℕ) → T (passes (owes row) s) → Cut row s
unfolding passes next
cut [] [] t = record { front = []; back = []; whole = refl; matches = done; rest = none }
cut (range ∷ row) [] t = absurd t
cut [] (b ∷ s) t =
    let o : Opened UTF8-char b s = opened UTF8-char b s t in
    let c : Cut o.row s = cut o.row s o.rest in
    let made : UTF8-octets (b ∷ (c.front ++ c.back)) =
    char o.listed (byte o.fits.above o.fits.below c.matches) c.rest in
    record { front = []; back = b ∷ s; whole = refl; matches = done; rest = rw c.whole at made }
cut (low to high ∷ row) (b ∷ s) t = cut-byte low high row b s (within (low to high) b) refl (λ left. cut left s) t

behind-nothing : {front : List ℕ} (back s : List ℕ) → Matches [] front → front ++ back ≡ s → UTF8-octets back → UTF8-octets s
behind-nothing back s done e r = subst UTF8-octets e r

pub pass-octets : (s : List ℕ) → T (is_utf8 s) → UTF8-octets s
unfolding is_utf8
pass-octets s t =
    let c : Cut [] s = cut [] s t in
    behind-nothing c.back s c.matches c.whole c.rest

-- the rows of a table have first ranges that rise, from n on, and none is empty
rising : ℕ → List (List Range) → Bool
rising n [] = true
rising n ([] ∷ rows) = false
rising n ((low to high ∷ row) ∷ rows) = (leb n low && leb low high) && rising (suc high) rows

record Rises (n low high : ℕ) (rows : List (List Range)) : Type 0 where
  from : n ≤ low
  full : low ≤ high
  rest : T (rising (suc high) rows)

rises : (n low high : ℕ) (row : List Range) (rows : List (List Range)) → T (rising n ((low to high ∷ row) ∷ rows)) → Rises n low high rows
unfolding rising
rises n low high row rows t =
    let a = and_yes (leb n low && leb low high) (rising (suc high) rows) t in
    let b = and_yes (leb n low) (leb low high) a.0 in
    record { from = leb→le n low b.0; full = leb→le low high b.1; rest = a.1 }

start : (n : ℕ) (rows : List (List Range)) (low high : ℕ) (row : List Range)
    → T (rising n rows)
    → Memᴰ (low to high ∷ row) rows
    → n ≤ low
unfolding rising
start n [] low high row t m = absurd (Memᴰ.not-nil m)
start n ([] ∷ rows) low high row t m = absurd t
start n ((low' to high' ∷ row') ∷ rows) low high row t m =
    let r : Rises n low' high' rows = rises n low' high' row' rows t in
    ⊎_elim
    (λ e. let same : low ≡ low' = cc in omega arith)
    (λ m'. let after : suc high' ≤ low = start (suc high') rows low high row r.rest m' in omega arith)
    (Memᴰ.cases_cons m)

within-is : {low high b : ℕ} → low ≤ b → b ≤ high → within (low to high) b ≡ true
within-is h k = rw (le-leb _ _ h, le-leb _ _ k)

-- so a byte in a row's first range opens that row
first-is : (n : ℕ) (rows : List (List Range)) (low high : ℕ) (row : List Range) (b : ℕ)
    → T (rising n rows)
    → Memᴰ (low to high ∷ row) rows
    → low ≤ b
    → b ≤ high
    → first rows b ≡ owes row
unfolding first rising
first-is n [] low high row b t m h k = absurd (Memᴰ.not-nil m)
first-is n ([] ∷ rows) low high row b t m h k = absurd t
first-is n ((low' to high' ∷ row') ∷ rows) low high row b t m h k =
    let r : Rises n low' high' rows = rises n low' high' row' rows t in
    ⊎_elim
    (λ e.
    let l : low ≡ low' = cc in
    let g : high ≡ high' = cc in
    let same : row ≡ row' = cc in
    rw (le-leb low' b (omega arith), le-leb b high' (omega arith)) (ap owes (sym same)))
    (λ m'.
    let after : suc high' ≤ low = start (suc high') rows low high row r.rest m' in
    rw (le-leb low' b (omega arith), lt-leb b high' (omega arith)) (first-is (suc high') rows low high row b r.rest m' h k))
    (Memᴰ.cases_cons m)

table-rises : T (rising 0 UTF8-char)
unfolding rising UTF8-char
table-rises = tt

matches-pass : {row : List Range} {c : List ℕ} (s : List ℕ) → Matches row c → passes (owes row) (c ++ s) ≡ is_utf8 s
unfolding passes next is_utf8
matches-pass s done = refl
matches-pass s (byte {row = row} {c = c} h k m) =
    ap (λ (test : Bool). passes (pick test (owes row) refused) (c ++ s)) (within-is h k) ∙ matches-pass s m

character-passes : {row : List Range} {c : List ℕ} (s : List ℕ) → Memᴰ row UTF8-char → Matches row c → is_utf8 (c ++ s) ≡ is_utf8 s
unfolding passes next is_utf8
character-passes s l done = refl
character-passes s l (byte {low = low} {high = high} {b = b} {row = row} {c = c} h k m) =
    ap (λ (state : State). passes state (c ++ s)) (first-is 0 UTF8-char low high row b table-rises l h k) ∙ matches-pass s m

pub octets-are-text : {s : List ℕ} → UTF8-octets s → is_utf8 s ≡ true
octets-are-text none = nothing-is-text
octets-are-text (char {s = s} l m r) = character-passes s l m ∙ octets-are-text r

pub octets-pass : (s : List ℕ) → UTF8-octets s → T (is_utf8 s)
octets-pass s o = subst T (sym (octets-are-text o)) tt
