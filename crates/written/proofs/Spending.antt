-- What was read took at least as many bytes as it is written in.
use Rattle.std.proofs.Common.{if◌then◌else◌}
use Prim.Native.Nat.{ℕ, zero, suc, ◌+◌, ◌-◌, ◌≤◌}
use mathlib.Core.Path.{◌≡◌, refl, sym, ◌∙◌, ap}
use mathlib.Core.Bool.{Bool, true, false}
use mathlib.Core.List.{List, map}
use native.Mathlib.Omega.{arith}
use lib.ListN.{length, take, drop, length-append, length-take, length-drop}
use lib.Dec.{eqb}
use borrow.Author.Tests.{leb-true}
use Rattle.refusal.specs.declared.Refusal.{Refusal}
use Rattle.refusal.specs.declared.Place.{Place}
use Rattle.grammar.specs.declared.Cursor.{Cursor}
use Rattle.grammar.specs.Outcome.{advanced, got, refused, Parser, pure, refuse, ◌>>=◌}
use Rattle.grammar.specs.Combinators.{enough, taking, byte, fixed, Text, text_at, text, place, check, left, room, ◌⇒◌∣◌, unknown, many, put_all}
use Rattle.grammar.specs.Number.{number, signed, zigzag, shortest}
use Rattle.grammar.proofs.Outcome.{got-ne-refused, got-value, got-next, bind-got}
use Rattle.grammar.proofs.Number.{zigzag-unzigzag}
use Rattle.grammar.proofs.RoundTrip.{itself}
use Rattle.grammar.proofs.Shortest.{shortest-least}
use Rattle.tables.specs.Table.{Used, records, nested}
use Rattle.format.specs.File as definition
use Rattle.leaves.proofs.Leaves.{Leaves}
use Rattle.written.specs.Meaning.{mean_text}
use Rattle.written.specs.Put.{put_bytes, put_list}
use Rattle.written.proofs.Lists.{length-map, map-itself}
use Rattle.written.proofs.Leaving.{Records, leaves-many}

pub record Spends {A : Type 0} (s : List ℕ) (p : Parser A) (size : A → ℕ) : Type 0 where
  pub always : (c : Cursor) (v : A) (next : Cursor) → p s c ≡ got v next → c.at + size v ≤ next.at

-- ── the laws, one for each combinator ──

module _ {s : List ℕ} where
  pub spends-pure : {A : Type 0} {size : A → ℕ} (v : A) → size v ≤ 0 → Spends s (pure v) size
  unfolding pure
  spends-pure {size = size} v h =
      record {
        always = λ c w next e.
            let same : c.at ≡ next.at = ap (λ (k : Cursor). k.at) (got-next e) in
            let none : size w ≤ 0 = rw (← got-value e) h in
            omega arith;
      }

  pub spends-refuse : {A : Type 0} {size : A → ℕ} (r : Refusal) → Spends s (refuse r) size
  unfolding refuse
  spends-refuse r = record { always = λ c w next e. absurd (got-ne-refused (sym e)) }

  -- what is still owed behind the first
  pub spends-then : {A B : Type 0} {p : Parser A} (f : A → Parser B) {first : A → ℕ} {size : B → ℕ} → Spends s p first →
      ((a : A) → Spends s (f a) (λ v. size v - first a)) → Spends s (p >>= f) size
  spends-then {p = p} f one rest =
      record {
        always = λ c w last e.
            let twice = bind-got p f s c w last e in
            omega (arith, one.always c twice.value twice.next twice.first, (rest twice.value).always twice.next w last twice.second);
      }

  -- behind what takes nothing
  pub spends-free : {A B : Type 0} {p : Parser A} (f : A → Parser B) {size : B → ℕ} → Spends s p (λ _. 0) →
      ((a : A) → Spends s (f a) size) → Spends s (p >>= f) size
  spends-free {p = p} f none rest =
      record {
        always = λ c w last e.
            let twice = bind-got p f s c w last e in
            omega (arith, none.always c twice.value twice.next twice.first, (rest twice.value).always twice.next w last twice.second);
      }

  pub spends-check : (t : Bool) (r : Refusal) → Spends s (check t r) (λ _. 0)
  unfolding check
  spends-check true r = spends-pure tt (omega arith)
  spends-check false r = spends-refuse r

  pub spends-room : (table places used : ℕ) → Spends s (room table places used) (λ _. 0)
  unfolding room
  spends-room table places used = spends-check _ _

  pub spends-left : (n : ℕ) → Spends s (left n) (λ _. 0)
  unfolding left
  spends-left n = record { always = λ c v next e. (spends-check (enough n s c) Refusal.Truncated).always c v next e }

  pub spends-place : Spends s place (λ _. 0)
  unfolding place
  spends-place = record { always = λ c v next e. let same : c.at ≡ next.at = ap (λ (k : Cursor). k.at) (got-next e) in omega arith }

  pub spends-tag : {A : Type 0} (k : ℕ) {p : Parser A} (others : ℕ → Parser A) (tag : ℕ) {size : A → ℕ} → Spends s p size → Spends s (others tag) size →
      Spends s ((k ⇒ p ∣ others) tag) size
  unfolding ◌⇒◌∣◌
  spends-tag k {p} others tag {size} here there = go (eqb tag k)
    where
      go : (t : Bool) → Spends s (if t then p else others tag) size
      go true = here
      go false = there

  pub spends-unknown : {A : Type 0} (at : Place) (tag : ℕ) {size : A → ℕ} → Spends s (unknown at tag) size
  unfolding unknown
  spends-unknown at tag = spends-refuse _

  pub spends-taking : {A : Type 0} (n : ℕ) (what : List ℕ → ℕ → A) → Spends s (taking n what) (λ _. n)
  unfolding taking
  spends-taking {A} n what = record { always = λ c v next e. go c v next (enough n s c) e }
    where
      go : (c : Cursor) (v : A) (next : Cursor) (t : Bool) → (if t then got (what s c.at) (advanced c n) else refused Refusal.Truncated) ≡ got v next → c.at + n ≤ next.at
      go c v next true e = let same : c.at + n ≡ next.at = ap (λ (k : Cursor). k.at) (got-next e) in omega arith
      go c v next false e = absurd (got-ne-refused (sym e))

  pub spends-byte : Spends s byte (λ _. 1)
  unfolding byte
  spends-byte = spends-taking 1 _

  pub spends-fixed : (n : ℕ) → Spends s (fixed n) (λ _. n)
  unfolding fixed
  spends-fixed n = spends-taking n _

  pub spends-number : (bits : ℕ) → Spends s (number bits) (λ n. length (shortest n))
  spends-number bits = record { always = λ c v next e. shortest-least bits s c v next e }

  pub spends-signed : Spends s signed (λ z. length (shortest (zigzag z)))
  unfolding signed
  spends-signed = spends-then _ (spends-number 64) (λ u. spends-pure _ (rw (zigzag-unzigzag u) (omega arith)))

-- ── texts ──

-- all of the bytes that were asked for are there
text-whole : (s : List ℕ) (n : ℕ) (c : Cursor) (t : Text) (next : Cursor) → text n s c ≡ got t next → length t.bytes ≡ n
unfolding text taking
text-whole s n c t next e = go (enough n s c) refl e
  where
    go : (b : Bool) → enough n s c ≡ b → (if b then got (text_at s (record { start = c.at; size = n })) (advanced c n) else refused Refusal.Truncated) ≡ got t next →
        length t.bytes ≡ n
    go true h e =
        let within : c.at + n ≤ length s = leb-true _ _ h in
        let whole : length (take n (drop c.at s)) ≡ n = simp (length-take, length-drop) (omega arith) in
        ap (λ (x : Text). length x.bytes) (sym (got-value e)) ∙ whole
    go false h e = absurd (got-ne-refused (sym e))

module _ {s : List ℕ} where
  pub spends-text : (n : ℕ) → Spends s (text n) (λ _. n)
  unfolding text
  spends-text n = spends-taking n _

  pub spends-bytes : Spends s definition.bytes (λ t. length (put_bytes (mean_text t)))
  unfolding definition.bytes
  spends-bytes =
      spends-then _ (spends-number 64) (λ n. record {
        always = λ c t next e.
            let whole : length t.bytes ≡ n = text-whole s n c t next e in
            rw whole (omega (arith, (spends-text n).always c t next e, length-append (shortest n) t.bytes));
      })

  pub spends-string : Spends s definition.string (λ t. length (put_bytes (mean_text t)))
  unfolding definition.string
  spends-string = spends-then _ spends-bytes (λ t. spends-free _ (spends-check _ _) (λ _. spends-pure _ (omega arith)))

-- ── lists ──

module _ {s : List ℕ} {X M S : Type 0} (mean : X → M) (put : M → List ℕ) (next : S → X → S) {p : S → Parser X}
    (one : (used : S) → Spends s (p used) (λ x. length (put (mean x)))) where
  pub spends-many : (n : ℕ) (used : S) → Spends s (many next p n used) (λ xs. length (put_all put (map mean xs)))
  unfolding many
  spends-many zero used = spends-pure _ (omega arith)
  spends-many (suc n) used =
      spends-then _ (one used) (λ x. spends-then _ (spends-many n (next used x)) (λ xs.
      spends-pure _ (omega (arith, length-append (put (mean x)) (put_all put (map mean xs))))))

  -- as many as asked
  counts : (n : ℕ) (used : S) → Leaves s (many next p n used) (Records mean next (λ _. Unit) (λ _. Unit) n used)
  counts n used = leaves-many mean next (λ _. Unit) (λ _. Unit) (λ used _. record { always = λ c x last e. (tt, tt) }) n used tt

  -- behind their count
  pub spends-counted : (n : ℕ) (used : S) → Spends s (many next p n used) (λ xs. length (put_list put (map mean xs)) - length (shortest n))
  spends-counted n used =
      record {
        always = λ c xs last e.
            let same : length (map mean xs) ≡ n = length-map mean xs ∙ ((counts n used).always c xs last e).count in
            rw same (omega (arith, (spends-many n used).always c xs last e, length-append (shortest n) (put_all put (map mean xs))));
      }

module _ {s : List ℕ} {X M : Type 0} (mean : X → M) (put : M → List ℕ) {p : Parser X} (table places : ℕ) (one : Spends s p (λ x. length (put (mean x)))) where
  pub spends-records : (n used : ℕ) → Spends s (records table places p n used) (λ xs. length (put_list put (map mean xs)) - length (shortest n))
  unfolding records
  spends-records n used = spends-counted mean put _ (λ used. spends-free _ (spends-room _ _ _) (λ _. one)) n used

  pub spends-list : (used : ℕ) → Spends s (definition.list table places p used) (λ xs. length (put_list put (map mean xs)))
  unfolding definition.list
  spends-list used = spends-then _ (spends-number 64) (λ n. spends-records n used)

-- what means itself
pub spends-themselves : {s : List ℕ} {X : Type 0} {p : Parser (List X)} (size : List X → ℕ) → Spends s p (λ xs. size (map itself xs)) → Spends s p size
spends-themselves size spends = record { always = λ c xs last e. rw (map-itself xs) at (spends.always c xs last e) }

pub spends-items : {s : List ℕ} {X : Type 0} (put : X → List ℕ) {p : Parser X} (table places used : ℕ) → Spends s p (λ x. length (put x)) →
    Spends s (definition.list table places p used) (λ xs. length (put_list put xs))
spends-items put table places used one = spends-themselves (λ xs. length (put_list put xs)) (spends-list itself put table places one used)

pub spends-nested : {s : List ℕ} {X S : Type 0} (put : X → List ℕ) (next : S → X → S) {p : S → Parser X} (table places : ℕ) (used : Used S) →
    ((inner : S) → Spends s (p inner) (λ x. length (put x))) → Spends s (do
      n ← number 64
      nested next table places p n used) (λ xs. length (put_list put xs))
unfolding nested
spends-nested put next table places used one =
    spends-themselves (λ xs. length (put_list put xs))
    (spends-then _ (spends-number 64) (λ n. spends-counted itself put _ (λ used. spends-free _ (spends-room _ _ _) (λ _. one used.inner)) n used))
