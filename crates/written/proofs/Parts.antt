-- What stands in several sections is given back: numbers, bytes, strings, lists in tables, names, positions, chunks.
use Rattle.std.specs.Prelude.{Option, Some, None}
use Prim.Native.Nat.{ℕ, ◌^◌, ◌≤◌, ◌<◌}
use mathlib.Core.Path.{◌≡◌, refl, ◌∙◌, ap}
use mathlib.Core.List.{List, [], ◌++◌, append-nil}
use native.Mathlib.Nat.{le_trans}
use native.Mathlib.Omega.{arith}
use lib.Pow.{pow_mono}
use lib.IntN.{ℤ, pos, negsuc}
use mir.Syntax.{w64}
use mir.Val.{SFits}
use borrow.Author.Tests.{ne_eqb}
use Rattle.grammar.specs.Outcome.{Parser, pure, ◌>>=◌}
use Rattle.grammar.specs.Number.{number, signed, zigzag, shortest}
use Rattle.grammar.specs.RoundTrip.{Gives}
use Rattle.grammar.proofs.RoundTrip.{itself, gives-pure, gives-bind, gives-last, gives-check-then, gives-text}
use Rattle.grammar.proofs.Number as N
use Rattle.utf8.specs.Check.{is_utf8}
use Rattle.format.specs.declared.records.NameIndex.{NameIndex}
use Rattle.format.specs.declared.records.Position.{Position}
use Rattle.format.specs.declared.records.Chunk.{Chunk}
use Rattle.format.specs.File as definition
use Rattle.rows.specs.Fits.{FitsBits, FitsName, FitsPosition, FitsChunk}
use Rattle.written.specs.Meaning.{mean_text}
use Rattle.written.specs.Put.{put_bytes, put_name, put_position, put_chunk}
use Rattle.written.specs.WellFormed.{Counted, WellString}

-- ── in a do-block: a part that means itself, and the last one ──

pub gives_then : {A B M : Type 0} {mean : B → M} {s : List ℕ} {p : Parser A} (f : A → Parser B) {w₁ w₂ : List ℕ} {v : A} {m : M} →
    Gives itself s p w₁ v → Gives mean s (f v) w₂ m → Gives mean s (p >>= f) (w₁ ++ w₂) m
gives_then {mean = mean} f {w₁} {w₂} {v} gp gf = gives-bind itself mean w₁ w₂ v gp (λ u e. rw e gf)

pub gives-end : {A B M : Type 0} {mean : B → M} {s : List ℕ} {p : Parser A} (g : A → B) {w : List ℕ} {v : A} {m : M} →
    Gives itself s p w v → mean (g v) ≡ m → Gives mean s (p >>= (λ v. pure (g v))) w m
gives-end g {v = v} gp is = gives-last g v gp (λ u e. rw e is)

-- the last one, with tests behind it
pub gives-ended : {A B M : Type 0} {mean : B → M} {s : List ℕ} {p : Parser A} (f : A → Parser B) {w : List ℕ} {v : A} {m : M} →
    Gives itself s p w v → Gives mean s (f v) [] m → Gives mean s (p >>= f) w m
gives-ended f {w} gp gf = rw (← append-nil w) (gives_then f gp gf)

-- ── numbers ──

module _ {s : List ℕ} where
  pub gives-bits : (bits n : ℕ) → bits ≤ 64 → FitsBits bits n → Gives itself s (number bits) (shortest n) n
  gives-bits bits n le fits = N.gives-number bits n fits.below (le_trans fits.below (pow_mono le))

  pub gives-index : {n : ℕ} → FitsBits 32 n → Gives itself s (number 32) (shortest n) n
  gives-index {n} fits = gives-bits 32 n (omega arith) fits

  pub gives-small : {n : ℕ} → FitsBits 16 n → Gives itself s (number 16) (shortest n) n
  gives-small {n} fits = gives-bits 16 n (omega arith) fits

  pub gives-count : {n : ℕ} → n < 2 ^ 64 → Gives itself s (number 64) (shortest n) n
  gives-count {n} h = N.gives-number 64 n h h

zigzag-fits : (z : ℤ) → SFits w64 z → zigzag z < 2 ^ 64
unfolding zigzag
zigzag-fits (pos n) h = omega (arith, h.sfits)
zigzag-fits (negsuc n) h = omega (arith, h.sfits)

pub gives-signed : {s : List ℕ} {z : ℤ} → SFits w64 z → Gives itself s signed (shortest (zigzag z)) z
gives-signed {z = z} fits = N.gives-signed z (zigzag-fits z fits)

-- ── bytes and strings ──

pub gives-bytes : {s : List ℕ} (t : List ℕ) → Counted t → Gives mean_text s definition.bytes (put_bytes t) t
unfolding definition.bytes
gives-bytes t h = gives_then _ (gives-count h) (gives-text t)

pub gives-string : {s : List ℕ} (t : List ℕ) → WellString t → Gives mean_text s definition.string (put_bytes t) t
unfolding definition.string
gives-string t ok =
    rw (← append-nil (put_bytes t))
    (gives-bind mean_text mean_text (put_bytes t) [] t (gives-bytes t ok.counted)
    (λ x e. gives-check-then _ _ (ap is_utf8 e ∙ ok.utf8) (gives-pure x e)))

-- ── names, positions, chunks ──

pub gives-name : {s : List ℕ} (name : NameIndex) → FitsName name → Gives itself s definition.name_index (put_name name) name
unfolding definition.name_index
gives-name name fits = gives-end _ (gives-index fits) refl

pub gives-position : {s : List ℕ} (at : Option Position) → FitsPosition at → Gives itself s definition.position (put_position at) at
unfolding definition.position
gives-position None fits =
    gives_then _ (gives-small (record { below = omega arith })) (gives-end _ (gives-small (record { below = omega arith })) refl)
gives-position (Some at) fits =
    gives_then _ (gives-small fits.1.0) (gives-end _ (gives-small fits.1.1) (rw (ne_eqb at.line 0 (omega (arith, fits.0)))))

pub gives-chunk : {s : List ℕ} (c : Chunk) → FitsChunk c → Gives itself s definition.chunk (put_chunk c) c
unfolding definition.chunk
gives-chunk c fits = gives_then _ (gives-index fits.entry) (gives_then _ (gives-index fits.end) (gives-end _ (gives-small fits.slots) refl))
