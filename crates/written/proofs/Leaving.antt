-- What a read gives of bytes: texts and lists, of any record, with what they mean.
use Rattle.std.proofs.Common.{if◌then◌else◌}
use Prim.Native.Nat.{ℕ, zero, suc, ◌+◌, ◌^◌, ◌≤◌, ◌<◌}
use mathlib.Core.Path.{◌≡◌, refl, sym, ap}
use mathlib.Core.Bool.{Bool, true, false}
use mathlib.Core.List.{List, [], ◌∷◌, map, foldl}
use native.Mathlib.Nat.{pow-succ'}
use native.Mathlib.Omega.{arith}
use lib.ListN.{length, take, drop}
use Rattle.refusal.specs.declared.Refusal.{Refusal}
use Rattle.grammar.specs.declared.Cursor.{Cursor}
use Rattle.grammar.specs.Outcome.{advanced, got, refused, Parser, ◌>>=◌, ◌>>◌}
use Rattle.grammar.specs.Combinators.{enough, taking, low_first, fixed, Text, text, room, many, Each}
use Rattle.grammar.specs.Number.{number}
use Rattle.grammar.proofs.Outcome.{got-ne-refused, got-value}
use Rattle.grammar.proofs.RoundTrip.{itself}
use Rattle.tables.specs.Table.{Used, behind_one, records, nested}
use Rattle.format.specs.File as definition
use Rattle.leaves.proofs.Leaves.{Leaves, leaves-pure, leaves-then, leaves-check, leaves-room}
use Rattle.rows.specs.Given.{Bytes}
use Rattle.stored.proofs.Fitting.{leaves-number}
use Rattle.written.specs.Meaning.{mean_text}
use Rattle.written.specs.WellFormed.{Counted, WellString, WellList}
use Rattle.written.proofs.Lists.{length-map, map-itself, one_more, behind-all, Both, both-before}

-- ── runs of bytes ──

leaves-taking : {A : Type 0} {s : List ℕ} (n : ℕ) (what : List ℕ → ℕ → A) {Ok : A → Type 0} → ((at : ℕ) → Ok (what s at)) → Leaves s (taking n what) Ok
unfolding taking
leaves-taking {A} {s} n what {Ok} ok = record { always = λ c v next e. go c v next (enough n s c) e }
  where
    go : (c : Cursor) (v : A) (next : Cursor) (t : Bool) → (if t then got (what s c.at) (advanced c n) else refused Refusal.Truncated) ≡ got v next → Ok v
    go c v next true e = rw (← got-value e) (ok c.at)
    go c v next false e = absurd (got-ne-refused (sym e))

low_below : (s : List ℕ) → Bytes s → (n at : ℕ) → low_first n s at < 256 ^ n
low_below s bytes zero at = omega arith
low_below s bytes (suc n) at = omega (arith, bytes at, low_below s bytes n (at + 1), pow-succ' 256 n)

pub leaves-fixed : {s : List ℕ} → Bytes s → (n : ℕ) → Leaves s (fixed n) (λ v. v < 256 ^ n)
unfolding fixed
leaves-fixed {s} bytes n = leaves-taking n _ (low_below s bytes n)

-- its length is a 64-bit number; an empty text is known by it
pub record Taken (t : Text) : Type 0 where
  pub counted : Counted t.bytes
  pub empty : t.span.size ≡ 0 → t.bytes ≡ []

few : (n : ℕ) (s : List ℕ) → length (take n s) ≤ n
few zero s = omega arith
few (suc n) [] = omega arith
few (suc n) (b ∷ s) = omega (arith, few n s)

none : (n : ℕ) (s : List ℕ) → n ≡ 0 → take n s ≡ []
none n s e = rw e

pub leaves-bytes : {s : List ℕ} → Leaves s definition.bytes Taken
unfolding definition.bytes text
leaves-bytes {s} = leaves-then _ (leaves-number 64) (λ n h. leaves-taking n _ (λ at. record { counted = omega (arith, few n (drop at s), h.below); empty = none n (drop at s) }))

pub leaves-string : {s : List ℕ} → Leaves s definition.string (λ t. WellString (mean_text t))
unfolding definition.string
leaves-string = leaves-then _ leaves-bytes (λ t taken. leaves-check _ _ _ (λ e. leaves-pure _ (record { counted = taken.counted; utf8 = e })))

-- ── lists ──

-- as many records as asked, a fact of what each means, and of the places behind them
pub record Records {X M S : Type 0} (mean : X → M) (next : S → X → S) (Ok : M → Type 0) (Room : S → Type 0) (n : ℕ) (used : S) (xs : List X) : Type 0 where
  pub count : length xs ≡ n
  pub each : Each Ok (map mean xs)
  pub behind : Room (foldl next used xs)

module _ {X M S : Type 0} (mean : X → M) (next : S → X → S) (Ok : M → Type 0) (Room : S → Type 0) {s : List ℕ} {p : S → Parser X}
    (one : (used : S) → Room used → Leaves s (p used) (λ x. Ok (mean x) × Room (next used x))) where
  pub leaves-many : (n : ℕ) (used : S) → Room used → Leaves s (many next p n used) (Records mean next Ok Room n used)
  unfolding many
  leaves-many zero used r = leaves-pure _ (record { count = refl; each = tt; behind = r })
  leaves-many (suc n) used r =
      leaves-then _ (one used r) (λ x ok. leaves-then _ (leaves-many n (next used x) ok.1) (λ xs w.
      leaves-pure _ (record { count = ap suc w.count; each = (ok.0, w.each); behind = w.behind })))

-- what a list means has as many records
pub counted-as : {X M : Type 0} (mean : X → M) (xs : List X) {n : ℕ} → length xs ≡ n → n < 2 ^ 64 → Counted (map mean xs)
counted-as mean xs e h = rw (length-map mean xs, e) h

-- a list behind so many places of its table
pub record Listed {M : Type 0} (Ok : M → Type 0) (places used : ℕ) (ms : List M) : Type 0 where
  pub counted : Counted ms
  pub room : used + length ms ≤ places
  pub each : Each Ok ms

module _ {X M : Type 0} (mean : X → M) (Ok : M → Type 0) {s : List ℕ} {p : Parser X} (table places : ℕ) (one : Leaves s p (λ x. Ok (mean x))) where
  with-place : {used : ℕ} → used < places → Leaves s p (λ x. Ok (mean x) × (used + 1 ≤ places))
  with-place free = record { always = λ c x next e. (one.always c x next e, omega arith) }

  pub leaves-records : (n used : ℕ) → n < 2 ^ 64 → used ≤ places → Leaves s (records table places p n used) (λ xs. Listed Ok places used (map mean xs))
  unfolding records
  leaves-records n used h r =
      record {
        always = λ c xs last e.
            let w = (leaves-many mean one_more Ok (λ used. used ≤ places) (λ used _. leaves-room table places used with-place) n used r).always c xs last e in
            record { counted = counted-as mean xs w.count h; room = rw (length-map mean xs, ← behind-all xs used) w.behind; each = w.each };
      }

  pub leaves-list : (used : ℕ) → used ≤ places → Leaves s (definition.list table places p used) (λ xs. Listed Ok places used (map mean xs))
  unfolding definition.list
  leaves-list used r = leaves-then _ (leaves-number 64) (λ n h. leaves-records n used h.below r)

-- a list from the front of its table
pub whole-list : {M : Type 0} {Ok : M → Type 0} {places : ℕ} {ms : List M} → Listed Ok places 0 ms → WellList places Ok ms
whole-list w = record { counted = w.counted; room = omega (arith, w.room); each = w.each }

pub leaves-top : {X M : Type 0} (mean : X → M) (Ok : M → Type 0) {s : List ℕ} {p : Parser X} (table places : ℕ) → Leaves s p (λ x. Ok (mean x)) →
    Leaves s (definition.list table places p 0) (λ xs. WellList places Ok (map mean xs))
leaves-top mean Ok table places one =
    record { always = λ c xs last e. whole-list ((leaves-list mean Ok table places one 0 (omega arith)).always c xs last e) }

-- items, which mean themselves
pub leaves-items : {X : Type 0} (Ok : X → Type 0) {s : List ℕ} {p : Parser X} (table places used : ℕ) → Leaves s p Ok → used ≤ places →
    Leaves s (definition.list table places p used) (Listed Ok places used)
leaves-items Ok table places used one r =
    record { always = λ c xs last e. rw (map-itself xs) at ((leaves-list itself Ok table places one used r).always c xs last e) }

-- records with items in tables of their own
module _ {X S : Type 0} (next : S → X → S) (Ok : X → Type 0) (Room : S → Type 0) {s : List ℕ} {p : S → Parser X} (table places : ℕ)
    (one : (inner : S) → Room inner → Leaves s (p inner) (λ x. Ok x × Room (next inner x))) where
  with-places : (used : Used S) → Both places Room used → Leaves s (room table places used.own >> p used.inner) (λ x. Ok x × Both places Room (behind_one next used x))
  with-places used b =
      leaves-room table places used.own (λ free. record {
        always = λ c x last e. let w = (one used.inner b.inner).always c x last e in (w.0, record { own = omega (arith, free); inner = w.1 });
      })

  pub leaves-nested : (from : S) → Room from →
      Leaves s (do
        n ← number 64
        nested next table places p n (record { own = 0; inner = from })) (λ xs. WellList places Ok xs × Room (foldl next from xs))
  unfolding nested
  leaves-nested from r =
      leaves-then _ (leaves-number 64) (λ n h. record {
        always = λ c xs last e.
            let w = (leaves-many itself (behind_one next) Ok (Both places Room) with-places n (record { own = 0; inner = from }) (record { own = omega arith; inner = r })).always c xs last e in
            let b = both-before next Room places xs (record { own = 0; inner = from }) w.behind in
            (record { counted = rw w.count h.below; room = omega (arith, b.0); each = rw (map-itself xs) at w.each }, b.1);
      })
