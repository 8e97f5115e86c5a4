-- The round-trip law of each combinator: alone, and (`..-then`) in front of the rest of a do-block.
use Prim.Native.Nat.{ℕ, zero, suc, ◌+◌, ◌/◌, ◌%◌, ◌^◌, ◌≤◌, ◌<◌}
use mathlib.Core.Path.{◌≡◌, refl, sym, ◌∙◌, ap}
use mathlib.Core.Bool.{Bool, true, false}
use mathlib.Core.List.{List, [], ◌∷◌, ◌++◌, append_assoc, append-nil, map}
use native.Mathlib.Nat.{add_assoc, add-zero, pow-succ'}
use native.Mathlib.Omega.{arith}
use lib.ListN.{length, get_or, take, drop, length-append, length-drop}
use lib.Seq.{take_at, drop_at, drop-drop, get_or-drop}
use lib.Dec.{eqb}
use borrow.Author.Tests.{le-leb, lt-ltb, eq-eqb}
use Rattle.refusal.specs.declared.Refusal.{Refusal}
use Rattle.grammar.specs.declared.Cursor.{Cursor}
use Rattle.grammar.specs.Outcome.{advanced, got, Parser, after, pure, ◌>>=◌}
use Rattle.grammar.specs.Combinators.{taking, byte, low_first, fixed, low_bytes, Text, text, place, check, left, room, ◌⇒◌∣◌, many, put_all, EachFrom}
use Rattle.grammar.specs.RoundTrip.{Stands, Read, Gives}

-- a number means itself
abbrev pub itself : {A : Type 0} → A → A
itself v = v

-- moving twice is moving once
advanced-twice : (c : Cursor) (a b : ℕ) → advanced (advanced c a) b ≡ advanced c (a + b)
advanced-twice c a b = rw (add_assoc c.at a b)

advanced-none : (c : Cursor) → advanced c 0 ≡ c
advanced-none c = rw (add-zero c.at)

-- its bytes end within the file
pub stands-within : {w s : List ℕ} {at : ℕ} → Stands w s at → at + length w ≤ length s
stands-within h = omega (arith, h.fits, simp (length-drop, length-append) at (ap length h.found))

module _ (w₁ w₂ : List ℕ) {s : List ℕ} {at : ℕ} (h : Stands (w₁ ++ w₂) s at) where
  first-stands : Stands w₁ s at
  first-stands = record { post = w₂ ++ h.post; fits = h.fits; found = h.found ∙ append_assoc w₁ w₂ h.post }

  second-stands : Stands w₂ s (at + length w₁)
  unfolding first-stands
  second-stands =
      record {
        post = h.post;
        fits = stands-within first-stands;
        found = sym (drop-drop (length w₁) at s) ∙ ap (drop (length w₁)) first-stands.found ∙ drop_at w₁ _ (length w₁) refl;
      }

-- ── the laws, one for each combinator ──

pub gives-pure : {A M : Type 0} {mean : A → M} {s : List ℕ} (v : A) {m : M} → mean v ≡ m → Gives mean s (pure v) [] m
unfolding pure
gives-pure v e = record { reads = λ c h. record { value = v; means = e; result = ap (got v) (sym (advanced-none c)) } }

pub gives-bind : {A B L M : Type 0} (first : A → L) (mean : B → M) {s : List ℕ} {p : Parser A} {f : A → Parser B} (w₁ w₂ : List ℕ) (l : L) {m : M} →
    Gives first s p w₁ l → ((v : A) → first v ≡ l → Gives mean s (f v) w₂ m) → Gives mean s (p >>= f) (w₁ ++ w₂) m
unfolding ◌>>=◌
gives-bind {B = B} first mean {s} {p} {f} w₁ w₂ l {m} gp gf = record { reads = both }
  where
    both : (c : Cursor) → Stands (w₁ ++ w₂) s c.at → Read mean (after (p s c) (λ v next. f v s next)) c (length (w₁ ++ w₂)) m
    both c h =
        let r = gp.reads c (first-stands w₁ w₂ h) in
        let q = (gf r.value r.means).reads (advanced c (length w₁)) (second-stands w₁ w₂ h) in
        record {
          value = q.value;
          means = q.means;
          result = rw r.result (q.result ∙ ap (got q.value) (advanced-twice c _ _ ∙ ap (advanced c) (sym (length-append w₁ w₂))));
        }

-- the last read of a do-block, of which g makes the value
pub gives-last : {A B L M : Type 0} {first : A → L} {mean : B → M} {s : List ℕ} {p : Parser A} (g : A → B) {w : List ℕ} (l : L) {m : M} →
    Gives first s p w l → ((v : A) → first v ≡ l → mean (g v) ≡ m) → Gives mean s (p >>= (λ v. pure (g v))) w m
gives-last {first = first} {mean} {s} g {w} l gp is =
    rw (← append-nil w) (gives-bind first mean w [] l gp (λ v e. gives-pure (g v) (is v e)))

-- what takes nothing and gives a fixed value
pub gives_nothing : {B M : Type 0} {mean : B → M} {s w : List ℕ} {m : M} {q : Parser B} (p : Parser B) →
    ((c : Cursor) → Stands w s c.at → p s c ≡ q s c) → Gives mean s q w m → Gives mean s p w m
gives_nothing {mean = mean} {s} {w} {m} p same g =
    record { reads = λ c h. let r = g.reads c h in record { value = r.value; means = r.means; result = same c h ∙ r.result } }

pub gives-check-then : {B M : Type 0} {mean : B → M} {s w : List ℕ} {m : M} {b : Bool} (r : Refusal) (f : Unit → Parser B) →
    b ≡ true → Gives mean s (f tt) w m → Gives mean s (check b r >>= f) w m
unfolding check ◌>>=◌ pure
gives-check-then r f e g = gives_nothing _ (λ c h. rw e) g

pub gives-room-then : {B M : Type 0} {mean : B → M} {s w : List ℕ} {m : M} (table : ℕ) {cap used : ℕ} (f : Unit → Parser B) →
    used < cap → Gives mean s (f tt) w m → Gives mean s (room table cap used >>= f) w m
unfolding room
gives-room-then table f h g = gives-check-then _ f (lt-ltb _ _ h) g

-- the count stands in front of what is counted, each at least a byte
pub gives-left-then : {B M : Type 0} {mean : B → M} {s w : List ℕ} {m : M} {n : ℕ} (f : Unit → Parser B) →
    n ≤ length w → Gives mean s (f tt) w m → Gives mean s (left n >>= f) w m
unfolding left check ◌>>=◌ pure
gives-left-then {s = s} {n = n} f le g = gives_nothing _ (λ c h. rw (le-leb (c.at + n) (length s) (omega (arith, stands-within h)))) g

pub gives-place-then : {B M : Type 0} {mean : B → M} {s w : List ℕ} {m : M} {f : ℕ → Parser B} →
    ((at : ℕ) → Gives mean s (f at) w m) → Gives mean s (place >>= f) w m
unfolding place ◌>>=◌
gives-place-then g = record { reads = λ c h. (g c.at).reads c h }

pub gives-taking : {A M : Type 0} {mean : A → M} {s w : List ℕ} {m : M} (n : ℕ) (what : List ℕ → ℕ → A) → length w ≡ n →
    ((at : ℕ) → Stands w s at → mean (what s at) ≡ m) → Gives mean s (taking n what) w m
unfolding taking
gives-taking {s = s} n what e is =
    record {
      reads = λ c h. record {
        value = what s c.at;
        means = is c.at h;
        result = rw (le-leb (c.at + n) (length s) (omega (arith, stands-within h)), e);
      };
    }

-- the first byte that is found at a place, and the others behind it
first_found : (s : List ℕ) (at b : ℕ) (bs : List ℕ) → drop at s ≡ b ∷ bs → (get_or s at 0 ≡ b) × (drop (at + 1) s ≡ bs)
first_found s at b bs e = (
  ap (λ (n : ℕ). get_or s n 0) (sym (add-zero at)) ∙ sym (get_or-drop at s 0 0) ∙ ap (λ (l : List ℕ). get_or l 0 0) e,
  sym (drop-drop 1 at s) ∙ ap (drop 1) e,
)

pub gives-byte : {s : List ℕ} (b : ℕ) → Gives itself s byte (b ∷ []) b
unfolding byte
gives-byte {s} b = gives-taking 1 _ refl (λ at h. (first_found s at b h.post h.found).0)

length-low_bytes : (n v : ℕ) → length (low_bytes n v) ≡ n
length-low_bytes zero v = refl
length-low_bytes (suc n) v = ap suc (length-low_bytes n (v / 256))

low-first : (n v : ℕ) (s post : List ℕ) (at : ℕ) → v < 256 ^ n → drop at s ≡ low_bytes n v ++ post → low_first n s at ≡ v
low-first zero v s post at h e = omega arith
low-first (suc n) v s post at h e =
    let f = first_found s at (v % 256) (low_bytes n (v / 256) ++ post) e in
    let q : low_first n s (at + 1) ≡ v / 256 = low-first n (v / 256) s post (at + 1) (omega (arith, pow-succ' 256 n)) f.1 in
    rw (f.0, q) (omega arith)

pub gives-fixed : {s : List ℕ} (n v : ℕ) → v < 256 ^ n → Gives itself s (fixed n) (low_bytes n v) v
unfolding fixed
gives-fixed {s} n v h = gives-taking n (low_first n) (length-low_bytes n v) (λ at stands. low-first n v s stands.post at h stands.found)

pub gives-text : {s : List ℕ} (t : List ℕ) → Gives (λ (x : Text). x.bytes) s (text (length t)) t t
unfolding text
gives-text t = gives-taking (length t) _ refl (λ at h. ap (take (length t)) h.found ∙ take_at t _ (length t) refl)

pub gives-byte-then : {B M : Type 0} {mean : B → M} {s w : List ℕ} {m : M} (f : ℕ → Parser B) (b : ℕ) →
    Gives mean s (f b) w m → Gives mean s (byte >>= f) (b ∷ w) m
gives-byte-then {mean = mean} {s} {w} {m} f b g =
    gives-bind itself mean (b ∷ []) w b (gives-byte b) (λ v e. rw e g)

pub gives-text-then : {B M : Type 0} {mean : B → M} {s : List ℕ} (t w : List ℕ) {m : M} {f : Text → Parser B} →
    ((x : Text) → x.bytes ≡ t → Gives mean s (f x) w m) → Gives mean s (text (length t) >>= f) (t ++ w) m
gives-text-then {mean = mean} t w g = gives-bind _ mean t w t (gives-text t) g

-- the tag is the one asked, or one of the others
pub gives-tag : {A M : Type 0} {mean : A → M} {s w : List ℕ} {m : M} {p : Parser A} (others : ℕ → Parser A) (k : ℕ) →
    Gives mean s p w m → Gives mean s ((k ⇒ p ∣ others) k) w m
unfolding ◌⇒◌∣◌
gives-tag others k g = rw (eq-eqb k k refl) g

pub gives-other-tag : {A M : Type 0} {mean : A → M} {s w : List ℕ} {m : M} (p : Parser A) (others : ℕ → Parser A) (k tag : ℕ) →
    eqb tag k ≡ false → Gives mean s (others tag) w m → Gives mean s ((k ⇒ p ∣ others) tag) w m
unfolding ◌⇒◌∣◌
gives-other-tag p others k tag e g = rw e g

-- each record is read behind the places used before it, so the whole list is
module _ {A M S : Type 0} (mean : A → M) {s : List ℕ} (next : S → A → S) (next_of : S → M → S) (p : S → Parser A) (put : M → List ℕ)
    (Ok : S → M → Type 0) (same : (used : S) (v : A) → next used v ≡ next_of used (mean v))
    (one : (m : M) (used : S) → Ok used m → Gives mean s (p used) (put m) m) where
  pub gives-many : (ms : List M) (used : S) → EachFrom next_of Ok used ms →
      Gives (map mean) s (many next p (length ms) used) (put_all put ms) ms
  unfolding many
  gives-many [] used ok = gives-pure [] refl
  gives-many (m ∷ ms) used ok =
      gives-bind mean (map mean) (put m) (put_all put ms) m (one m used ok.0)
      (λ v e. gives-last {first = map mean} (λ xs. v ∷ xs) ms (rw (same used v, e) (gives-many ms (next_of used m) ok.1)) (λ xs q. cc))
