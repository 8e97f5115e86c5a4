-- Lists whose records are kept in tables are given back where the tables have the places.
use Prim.Native.Nat.{ℕ, suc, ◌+◌, ◌≤◌}
use mathlib.Core.Path.{◌≡◌, refl, sym, ◌∙◌, ap}
use mathlib.Core.List.{List, [], ◌∷◌, map, foldl}
use native.Mathlib.Omega.{arith}
use lib.ListN.{length}
use Rattle.grammar.specs.Outcome.{Parser, ◌>>=◌}
use Rattle.grammar.specs.Combinators.{put_all, Each, EachFrom}
use Rattle.grammar.specs.Number.{number}
use Rattle.grammar.specs.RoundTrip.{Gives}
use Rattle.grammar.proofs.RoundTrip.{itself, gives-room-then, gives-many}
use Rattle.tables.specs.Table.{Used, behind_one, records, nested}
use Rattle.format.specs.File as definition
use Rattle.written.specs.Put.{put_list}
use Rattle.written.specs.WellFormed.{Counted, WellList}
use Rattle.written.proofs.Parts.{gives_then, gives-count}

pub length-map : {X Y : Type 0} (f : X → Y) (xs : List X) → length (map f xs) ≡ length xs
length-map f [] = refl
length-map f (x ∷ xs) = ap suc (length-map f xs)

-- a list of what means itself means itself
pub map-itself : {A : Type 0} (xs : List A) → map itself xs ≡ xs
map-itself [] = refl
map-itself (x ∷ xs) = ap (λ l. x ∷ l) (map-itself xs)

pub gives-themselves : {A : Type 0} {s w : List ℕ} {p : Parser (List A)} {xs : List A} → Gives (map itself) s p w xs → Gives itself s p w xs
gives-themselves g =
    record { reads = λ c h. let r = g.reads c h in record { value = r.value; means = sym (map-itself r.value) ∙ r.means; result = r.result } }

-- a list and what it means take the same places where each record does
module _ {X M S : Type 0} (mean : X → M) (next : S → X → S) (next_of : S → M → S) (same : (used : S) (v : X) → next used v ≡ next_of used (mean v)) where
  pub all_same : (xs : List X) (used : S) → foldl next used xs ≡ foldl next_of used (map mean xs)
  all_same [] used = refl
  all_same (x ∷ xs) used = rw (same used x) (all_same xs (next_of used (mean x)))

-- there is room behind a whole list, so there is behind each of its records
module _ {M S : Type 0} (next : S → M → S) (Ok : M → Type 0) (Room : S → Type 0) (grows : (used : S) (m : M) → Room (next used m) → Room used) where
  abbrev pub RoomFor : S → M → Type 0
  RoomFor used m = Ok m × Room (next used m)

  room-before : (ms : List M) (used : S) → Room (foldl next used ms) → Room used
  room-before [] used r = r
  room-before (m ∷ ms) used r = grows used m (room-before ms (next used m) r)

  pub room-for-each : (ms : List M) (used : S) → Room (foldl next used ms) → Each Ok ms → EachFrom next RoomFor used ms
  room-for-each [] used r ok = tt
  room-for-each (m ∷ ms) used r ok = ((ok.0, room-before ms (next used m) r), room-for-each ms (next used m) r ok.1)

-- ── records of one table ──

abbrev pub one_more : {M : Type 0} → ℕ → M → ℕ
one_more used m = used + 1

pub behind-all : {M : Type 0} (ms : List M) (used : ℕ) → foldl one_more used ms ≡ used + length ms
behind-all [] used = omega arith
behind-all (m ∷ ms) used = behind-all ms (used + 1) ∙ omega arith

module _ {A M : Type 0} (mean : A → M) {s : List ℕ} {p : Parser A} {put : M → List ℕ} {Ok : M → Type 0} (table places : ℕ)
    (one : (m : M) → Ok m → Gives mean s p (put m) m) where
  abbrev Room : ℕ → Type 0
  Room used = used ≤ places

  grows : (used : ℕ) (m : M) → Room (one_more used m) → Room used
  grows used m r = omega arith

  pub gives-records : (ms : List M) (used : ℕ) → used + length ms ≤ places → Each Ok ms →
      Gives (map mean) s (records table places p (length ms) used) (put_all put ms) ms
  unfolding records
  gives-records ms used r ok =
      gives-many mean one_more one_more _ put (RoomFor one_more Ok Room grows) (λ used v. refl)
      (λ m used ok. gives-room-then table _ (omega (arith, ok.1)) (one m ok.0)) ms used
      (room-for-each one_more Ok Room grows ms used (rw (behind-all ms used) r) ok)

  pub gives-list : (ms : List M) (used : ℕ) → Counted ms → used + length ms ≤ places → Each Ok ms →
      Gives (map mean) s (definition.list table places p used) (put_list put ms) ms
  unfolding definition.list
  gives-list ms used h r ok = gives_then _ (gives-count h) (gives-records ms used r ok)

  pub gives-top : (ms : List M) → WellList places Ok ms → Gives (map mean) s (definition.list table places p 0) (put_list put ms) ms
  gives-top ms ok = gives-list ms 0 ok.counted (omega (arith, ok.room)) ok.each

-- ── records with items that stand in tables of their own ──

-- room in the records' table, and in those of their items
pub record Both {S : Type 0} (places : ℕ) (Room : S → Type 0) (used : Used S) : Type 0 where
  pub own : used.own ≤ places
  pub inner : Room used.inner

module _ {A S : Type 0} (next : S → A → S) (Room : S → Type 0) (places : ℕ) where
  both_behind : (xs : List A) (used : Used S) → used.own + length xs ≤ places → Room (foldl next used.inner xs) →
      Both places Room (foldl (behind_one next) used xs)
  both_behind [] used h r = record { own = omega arith; inner = r }
  both_behind (x ∷ xs) used h r = both_behind xs (behind_one next used x) (omega arith) r

  pub both-before : (xs : List A) (used : Used S) → Both places Room (foldl (behind_one next) used xs) →
      (used.own + length xs ≤ places) × Room (foldl next used.inner xs)
  both-before [] used r = (omega (arith, r.own), r.inner)
  both-before (x ∷ xs) used r = let b = both-before xs (behind_one next used x) r in (omega (arith, b.0), b.1)

module _ {A S : Type 0} (next : S → A → S) {s : List ℕ} {p : S → Parser A} {put : A → List ℕ} {Ok : A → Type 0} (Room : S → Type 0) (table places : ℕ)
    (grows : (inner : S) (x : A) → Room (next inner x) → Room inner)
    (one : (x : A) (inner : S) → Ok x → Room (next inner x) → Gives itself s (p inner) (put x) x) where
  both-grow : (used : Used S) (x : A) → Both places Room (behind_one next used x) → Both places Room used
  both-grow used x r = record { own = omega (arith, r.own); inner = grows used.inner x r.inner }

  pub gives-nested : (from : S) (xs : List A) → WellList places Ok xs → Room (foldl next from xs) →
      Gives itself s (do
        n ← number 64
        nested next table places p n (record { own = 0; inner = from })) (put_list put xs) xs
  unfolding nested
  gives-nested from xs ok r =
      gives_then _ (gives-count ok.counted) (gives-themselves
      (gives-many itself (behind_one next) (behind_one next) _ put (RoomFor (behind_one next) Ok (Both places Room) both-grow) (λ used v. refl)
      (λ x used ok. gives-room-then table _ (omega (arith, ok.1.own)) (one x used.inner ok.0 ok.1.inner)) xs (record { own = 0; inner = from })
      (room-for-each (behind_one next) Ok (Both places Room) both-grow xs _ (both_behind next Room places xs _ (omega (arith, ok.room)) r) ok.each)))
