-- Constants are given back, each one level deeper by the same law.
use Prim.Native.Nat.{ℕ, zero, suc, ◌+◌, ◌^◌, ◌≤◌, ◌<◌}
use mathlib.Core.Path.{◌≡◌, refl, ap}
use mathlib.Core.Bool.{Bool, true, false, ◌&&◌, ◌||◌, false≢true}
use mathlib.Core.List.{List, [], ◌∷◌, ◌++◌, append_assoc, map, foldl}
use native.Mathlib.Nat.{le_trans}
use native.Mathlib.Omega.{arith}
use lib.ListN.{length}
use lib.Dec.{leb, ltb}
use borrow.Author.Tests.{ltb-true}
use Rattle.grammar.specs.Outcome.{Parser, pure, ◌>>=◌}
use Rattle.grammar.specs.Combinators.{Text, many, put_all, Each, ◌⇒◌∣◌}
use Rattle.grammar.specs.Number.{shortest}
use Rattle.grammar.specs.RoundTrip.{Gives}
use Rattle.grammar.proofs.RoundTrip.{itself, gives-pure, gives-bind, gives-last, gives-check-then, gives-room-then, gives-byte-then, gives-fixed, gives-many}
use Rattle.format.specs.Artifact as A
use Rattle.format.specs.File as definition
use Rattle.rows.specs.Fits.{FitsBits}
use Rattle.written.specs.Meaning.{mean_text, mean_constant}
use Rattle.written.specs.Put.{put_bytes, put_list, put_kind, put_constant}
use Rattle.written.specs.WellFormed.{WellString, WellKind, WellConstant, WellConstants}
use Rattle.written.proofs.Parts.{gives_then, gives-end, gives-ended, gives-count, gives-index, gives-signed, gives-bytes, gives-string}
use Rattle.written.proofs.Lists.{all_same, RoomFor, room-for-each}

-- ── places, and the entries of a map ──

abbrev Const : ℕ → Type 0
Const levels = A.Constant (List ℕ) levels

abbrev pub Entry : ℕ → Type 0
Entry levels = List ℕ × Const levels

abbrev pub behind : (levels : ℕ) → ℕ → Const levels → ℕ
behind levels = A.behind (List ℕ) levels

abbrev behind_entry : (levels : ℕ) → ℕ → Entry levels → ℕ
behind_entry levels used entry = behind levels used entry.1

abbrev pub mean_entry : (levels : ℕ) → Text × A.Constant Text levels → Entry levels
mean_entry levels entry = (mean_text entry.0, mean_constant levels entry.1)

abbrev pub behind_text : (levels : ℕ) → ℕ → Text × A.Constant Text levels → ℕ
behind_text levels used entry = A.behind Text levels used entry.1

abbrev pub WellEntry : (levels : ℕ) → Entry levels → Type 0
WellEntry levels entry = WellString entry.0 × WellConstant levels entry.1

abbrev pub put_entry : (levels : ℕ) → Entry levels → List ℕ
put_entry levels entry = put_bytes entry.0 ++ put_constant levels entry.1

abbrev pub read_entry : (places levels : ℕ) → ℕ → Parser (Text × A.Constant Text levels)
read_entry places levels used = do
  key ← definition.string
  value ← definition.constant places levels used
  pure (key, value)

-- a list takes the places that its items take
module _ {M : Type 0} (next : ℕ → M → ℕ) (more : (used : ℕ) (m : M) → used ≤ next used m) where
  all_more : (ms : List M) (used : ℕ) → used ≤ foldl next used ms
  all_more [] used = omega arith
  all_more (m ∷ ms) used = le_trans (more used m) (all_more ms (next used m))

behind_more : (levels used : ℕ) (c : Const levels) → used ≤ behind levels used c
behind_more zero used c = absurd c
behind_more (suc levels) used (A.array items) = omega (arith, all_more (behind levels) (behind_more levels) items (used + 1))
behind_more (suc levels) used (A.map entries) =
    omega (arith, all_more (behind_entry levels) (λ used entry. behind_more levels used entry.1) entries (used + 1))
behind_more (suc levels) used (A.pointer name curried kind) = omega (arith, all_more (behind levels) (behind_more levels) curried (used + 1))
behind_more (suc levels) used A.unit = omega arith
behind_more (suc levels) used (A.boolean b) = omega arith
behind_more (suc levels) used (A.int n) = omega arith
behind_more (suc levels) used (A.float bits) = omega arith
behind_more (suc levels) used (A.char code) = omega arith
behind_more (suc levels) used (A.str t) = omega arith
behind_more (suc levels) used (A.blob t) = omega arith
behind_more (suc levels) used (A.range from to) = omega arith
behind_more (suc levels) used (A.range_inclusive from to) = omega arith

-- a constant and what it means take the same places
pub behind-same : (levels used : ℕ) (c : A.Constant Text levels) → A.behind Text levels used c ≡ behind levels used (mean_constant levels c)
behind-same zero used c = refl
behind-same (suc levels) used (A.array items) = all_same (mean_constant levels) (A.behind Text levels) (behind levels) (behind-same levels) items (used + 1)
behind-same (suc levels) used (A.map entries) =
    all_same (mean_entry levels) (behind_text levels) (behind_entry levels) (λ used entry. behind-same levels used entry.1) entries (used + 1)
behind-same (suc levels) used (A.pointer name curried kind) =
    all_same (mean_constant levels) (A.behind Text levels) (behind levels) (behind-same levels) curried (used + 1)
behind-same (suc levels) used A.unit = refl
behind-same (suc levels) used (A.boolean b) = refl
behind-same (suc levels) used (A.int n) = refl
behind-same (suc levels) used (A.float bits) = refl
behind-same (suc levels) used (A.char code) = refl
behind-same (suc levels) used (A.str t) = refl
behind-same (suc levels) used (A.blob t) = refl
behind-same (suc levels) used (A.range from to) = refl
behind-same (suc levels) used (A.range_inclusive from to) = refl

-- ── what holds no constants ──

gives-kind : {s : List ℕ} (k : A.Kind) → WellKind k → Gives itself s definition.kind (put_kind k) k
unfolding definition.kind ◌⇒◌∣◌
gives-kind A.normal ok = gives-byte-then _ 0x81 (gives-pure _ refl)
gives-kind (A.script n) ok = gives-byte-then _ 0x82 (gives-end _ (gives-count ok.below) refl)

-- a scalar is an index
scalar_fits : (code : ℕ) → definition.scalar code ≡ true → FitsBits 32 code
scalar_fits code e = record { below = low (ltb code 0xD800) refl e }
  where
    high : (b c : Bool) → ltb code 0x110000 ≡ c → (b && c) ≡ true → code < 2 ^ 32
    high b true e h = omega (arith, ltb-true code 0x110000 e)
    high true false e h = absurd (false≢true h)
    high false false e h = absurd (false≢true h)

    low : (b : Bool) → ltb code 0xD800 ≡ b → (b || (leb 0xE000 code && ltb code 0x110000)) ≡ true → code < 2 ^ 32
    low true e h = omega (arith, ltb-true code 0xD800 e)
    low false e h = high (leb 0xE000 code) (ltb code 0x110000) refl h

-- ── a constant, its items one level deeper ──

module _ {s : List ℕ} (places levels : ℕ)
    (deeper : (c : Const levels) (used : ℕ) → WellConstant levels c → behind levels used c ≤ places →
    Gives (mean_constant levels) s (definition.constant places levels used) (put_constant levels c) c) where
  abbrev Room : ℕ → Type 0
  Room used = used ≤ places

  grows : (used : ℕ) (c : Const levels) → Room (behind levels used c) → Room used
  grows used c r = le_trans (behind_more levels used c) r

  gives-items : (items : List (Const levels)) (used : ℕ) → Each (WellConstant levels) items → Room (foldl (behind levels) used items) →
      Gives (map (mean_constant levels)) s (many (A.behind Text levels) (definition.constant places levels) (length items) used) (put_all (put_constant levels) items) items
  gives-items items used ok r =
      gives-many (mean_constant levels) (A.behind Text levels) (behind levels) _ (put_constant levels) (RoomFor (behind levels) (WellConstant levels) Room grows)
      (behind-same levels) (λ c used ok. deeper c used ok.0 ok.1) items used
      (room-for-each (behind levels) (WellConstant levels) Room grows items used r ok)

  gives-entry : (entry : Entry levels) (used : ℕ) → WellEntry levels entry → Room (behind_entry levels used entry) →
      Gives (mean_entry levels) s (read_entry places levels used) (put_entry levels entry) entry
  gives-entry entry used ok r =
      gives-bind mean_text (mean_entry levels) _ _ entry.0 (gives-string entry.0 ok.0) (λ key e.
      gives-last _ entry.1 (deeper entry.1 used ok.1 r) (λ value f. rw (e, f)))

  gives-entries : (entries : List (Entry levels)) (used : ℕ) → Each (WellEntry levels) entries → Room (foldl (behind_entry levels) used entries) →
      Gives (map (mean_entry levels)) s (many (behind_text levels) (read_entry places levels) (length entries) used) (put_all (put_entry levels) entries) entries
  gives-entries entries used ok r =
      gives-many (mean_entry levels) (behind_text levels) (behind_entry levels) (read_entry places levels) (put_entry levels)
      (RoomFor (behind_entry levels) (WellEntry levels) Room (λ used entry r. grows used entry.1 r))
      (λ used entry. behind-same levels used entry.1) (λ entry used ok. gives-entry entry used ok.0 ok.1) entries used
      (room-for-each (behind_entry levels) (WellEntry levels) Room (λ used entry r. grows used entry.1 r) entries used r ok)

  gives_one : (c : Const (suc levels)) (used : ℕ) → WellConstant (suc levels) c → Room (behind (suc levels) used c) →
      Gives (mean_constant (suc levels)) s (definition.constant places (suc levels) used) (put_constant (suc levels) c) c
  unfolding definition.constant ◌⇒◌∣◌
  gives_one A.unit used ok r = gives-room-then 2 _ (omega arith) (gives-byte-then _ 0x00 (gives-pure _ refl))
  gives_one (A.boolean false) used ok r = gives-room-then 2 _ (omega arith) (gives-byte-then _ 0x01 (gives-pure _ refl))
  gives_one (A.boolean true) used ok r = gives-room-then 2 _ (omega arith) (gives-byte-then _ 0x02 (gives-pure _ refl))
  gives_one (A.int n) used ok r = gives-room-then 2 _ (omega arith) (gives-byte-then _ 0x03 (gives-end _ (gives-signed ok) refl))
  gives_one (A.float bits) used ok r =
      gives-room-then 2 _ (omega arith) (gives-byte-then _ 0x04 (gives-end _ (gives-fixed 8 bits (omega (arith, ok.below))) refl))
  gives_one (A.char code) used ok r =
      gives-room-then 2 _ (omega arith) (gives-byte-then _ 0x05 (gives-ended _ (gives-index (scalar_fits code ok)) (gives-check-then _ _ ok (gives-pure _ refl))))
  gives_one (A.str t) used ok r =
      gives-room-then 2 _ (omega arith) (gives-byte-then _ 0x06 (gives-last _ t (gives-string t ok) (λ x e. ap A.str e)))
  gives_one (A.array items) used ok r =
      gives-room-then 2 _ (omega (arith, all_more (behind levels) (behind_more levels) items (used + 1)))
      (gives-byte-then _ 0x07 (gives_then _ (gives-count ok.0) (gives-last _ items (gives-items items (used + 1) ok.1 r) (λ xs e. ap A.array e))))
  gives_one (A.map entries) used ok r =
      gives-room-then 2 _ (omega (arith, all_more (behind_entry levels) (λ used entry. behind_more levels used entry.1) entries (used + 1)))
      (gives-byte-then _ 0x08 (gives_then _ (gives-count ok.0) (gives-last _ entries (gives-entries entries (used + 1) ok.1 r) (λ xs e. ap A.map e))))
  gives_one (A.blob t) used ok r =
      gives-room-then 2 _ (omega arith) (gives-byte-then _ 0x09 (gives-last _ t (gives-bytes t ok) (λ x e. ap A.blob e)))
  gives_one (A.range from to) used ok r =
      gives-room-then 2 _ (omega arith) (gives-byte-then _ 0x0A (gives_then _ (gives-signed ok.0) (gives-end _ (gives-signed ok.1) refl)))
  gives_one (A.range_inclusive from to) used ok r =
      gives-room-then 2 _ (omega arith) (gives-byte-then _ 0x0B (gives_then _ (gives-signed ok.0) (gives-end _ (gives-signed ok.1) refl)))
  gives_one (A.pointer name curried kind) used ok r =
      gives-room-then 2 _ (omega (arith, all_more (behind levels) (behind_more levels) curried (used + 1)))
      (gives-byte-then _ 0x0D (gives-bind mean_text _ _ _ name (gives-string name ok.0) (λ x e.
      rw (append_assoc (shortest (length curried)) (put_all (put_constant levels) curried) (put_kind kind))
      (gives_then _ (gives-count ok.1.0.0)
      (gives-bind (map (mean_constant levels)) _ _ _ curried (gives-items curried (used + 1) ok.1.0.1 r) (λ xs f.
      gives-end _ (gives-kind kind ok.1.1) (rw (e, f))))))))

gives-constant : {s : List ℕ} (places levels : ℕ) (c : Const levels) (used : ℕ) → WellConstant levels c → behind levels used c ≤ places →
    Gives (mean_constant levels) s (definition.constant places levels used) (put_constant levels c) c
gives-constant places zero c = absurd c
gives-constant places (suc levels) c = gives_one places levels (gives-constant places levels) c

pub gives-constants : {s : List ℕ} (places : ℕ) (cs : List (Const A.levels)) → WellConstants places cs →
    Gives (map (mean_constant A.levels)) s (definition.constants places) (put_list (put_constant A.levels) cs) cs
unfolding definition.constants
gives-constants places cs ok =
    gives_then _ (gives-count ok.counted) (gives-items places A.levels (gives-constant places A.levels) cs 0 ok.each ok.room)
