-- The record of a row fits: a word is taken modulo the width of what it holds, and the rules say the rest.
use Rattle.std.specs.Prelude.{Option, Some, None}
use Rattle.std.proofs.Common.{if◌then◌else◌}
use Prim.Native.Nat.{ℕ, ◌+◌, ◌*◌, ◌-◌, ◌/◌, ◌%◌, ◌^◌, ◌≤◌, ◌<◌}
use mathlib.Core.Bool.{Bool, true, false}
use mathlib.Core.Path.{◌≡◌, refl, sym, ◌∙◌, ap}
use mathlib.Core.List.{List}
use native.Mathlib.Nat.{mod-lt, mod-le, zero-add, div-add-mod', lt_of_le_of_lt}
use native.Mathlib.Omega.{arith}
use lib.Pow.{pow_pos}
use lib.Bits.{bit_and, and_mod, and_block}
use lib.Dec.{eqb}
use mir.Syntax.{w64}
use mir.Val.{SFits}
use mir.ValLaws.{to_z-Fits}
use borrow.Author.Tests.{ltb-true, leb-true, eqb-false, eq-eqb}
use Rattle.format.specs.declared.records.Position.{Position}
use Rattle.rows.specs.Back as B
use Rattle.rows.specs.Fits.{FitsBits, FitsName, FitsPosition, FitsChunk, FitsRoot, FitsTail, FitsChain, FitsStep, FitsSwitch, FitsRange, FitsSite, FitsLiteral, FitsInput, FitsThis, FitsFunction}
use Rattle.written.specs.WellFormed.{flags_of, WellStep, WellCase}
use Rattle.model.specs.Rules.{sound_chunk, yes_no, sound_input}
use Rattle.rules.proofs.Both.{both}
use Rattle.upheld.proofs.Tests.{implied}
use Rattle.upheld.proofs.Rows.{Words}

-- ── numbers ──

-- of any width
pub bits_of : (bits w : ℕ) → FitsBits bits (w % 2 ^ bits)
bits_of bits w = record { below = mod-lt w (pow_pos bits) }

pub signed_of : (row : List ℕ) → Words row → (i : ℕ) → SFits w64 (B.signed (B.word row i))
signed_of row words i = to_z-Fits w64 (B.word row i) (record { fits = words i })

position-of : (line column : ℕ) → FitsPosition (B.position line column)
position-of line column = go (eqb (B.small line) 0) refl
  where
    go : (t : Bool) → eqb (B.small line) 0 ≡ t → FitsPosition (if t then None else Some (record { line = B.small line; column = B.small column }))
    go true e = tt
    go false e = let h : B.small line ≡ 0 → ⊥ = eqb-false _ _ e in (omega arith, (bits_of 16 line, bits_of 16 column))

chunk-of : (entry end slots : ℕ) → FitsChunk (B.chunk_of entry end slots)
chunk-of entry end slots = record { entry = bits_of 32 entry; end = bits_of 32 end; slots = bits_of 16 slots }

-- ── by a test ──

by : {X : Type 0} (P : X → Type 0) (b : Bool) {x y : X} → P x → P y → P (if b then x else y)
by P true h k = h
by P false h k = k

-- ── records ──

root-of : (tag slot named line column : ℕ) → FitsRoot (B.root_of tag slot named line column)
root-of tag slot named line column =
    by FitsRoot (eqb tag 1) (bits_of 16 slot, bits_of 32 named)
    (by FitsRoot (eqb tag 2) tt
    (by FitsRoot (eqb tag 3) (bits_of 32 named, position-of line column) (position-of line column)))

tail_of_lem : (tag op : ℕ) → FitsTail (B.tail_of tag op)
tail_of_lem tag op = by FitsTail (eqb tag 1) tt (by FitsTail (eqb tag 2) tt (bits_of 32 op))

module _ (row : List ℕ) where
  pub chain-of : FitsChain (B.chain_of row)
  chain-of =
      record {
        root = root-of (B.word row 0) (B.word row 1) (B.word row 2) (B.word row 3) (B.word row 4);
        operands = bits_of 16 (B.word row 5);
        tail = tail_of_lem (B.word row 7) (B.word row 8);
      }

  step-of : FitsStep (B.step_of row)
  step-of =
      let at = position-of (B.word row 7) (B.word row 8) in
      by FitsStep (eqb (B.word row 0) 1)
      (bits_of 8 _, (bits_of 16 _, (at, position-of (B.word row 9) (B.word row 10))))
      (by FitsStep (eqb (B.word row 0) 2)
      (bits_of 8 _, (bits_of 32 _, (bits_of 32 _, (bits_of 32 _, at))))
      (bits_of 8 _, (bits_of 32 _, (bits_of 8 _, (bits_of 16 _, at)))))

  pub switch-of : FitsSwitch (B.switch_of row)
  switch-of = bits_of 32 (B.word row 2)

  pub case-of : {tops : ℕ} → B.word row 1 < tops → WellCase tops (B.case_of row)
  case-of h =
      record {
        fits = record { blocks = bits_of 32 (B.word row 0); constant = bits_of 32 (B.word row 1) };
        top = lt_of_le_of_lt (mod-le (B.word row 1) (2 ^ 32)) h;
      }

  pub range-of : Words row → FitsRange (B.range_of row)
  range-of words = record { from = signed_of row words 0; to = signed_of row words 1; target = bits_of 32 (B.word row 3) }

  pub site-of : FitsSite (B.site_of row)
  site-of = record { key = bits_of 32 (B.word row 0); state = bits_of 32 (B.word row 1) }

  pub parameter-of : FitsName (B.parameter_of row)
  parameter-of = bits_of 32 (B.word row 0)

  pub function_of_lem : FitsFunction (B.function_of row)
  function_of_lem =
      record {
        name = bits_of 32 (B.word row 0);
        this = by FitsThis (eqb (B.word row 2) 0) tt (bits_of 32 (B.word row 2 - 1));
        chunk = chunk-of (B.word row 4) (B.word row 5) (B.word row 6);
      }

-- flags within the mask stay in it as a byte
masked : (flags mask : ℕ) → bit_and flags mask ≡ flags → bit_and (B.octet flags) mask ≡ B.octet flags
masked flags mask e =
    let whole : mask / 2 ^ 8 * 2 ^ 8 + mask % 2 ^ 8 ≡ mask = div-add-mod' mask (2 ^ 8) in
    let low : bit_and (B.octet flags) mask ≡ bit_and (B.octet flags) (mask % 2 ^ 8) =
    rw (whole, zero-add (B.octet flags), zero-add (bit_and (B.octet flags) (mask % 2 ^ 8))) at
    (and_block 8 0 (mask / 2 ^ 8) (B.octet flags) (mask % 2 ^ 8) (mod-lt flags (pow_pos 8)) (mod-lt mask (pow_pos 8))) in
    low ∙ (sym (and_mod flags mask 8) ∙ ap (λ (n : ℕ). n % 2 ^ 8) e)

pub well-step : (mask : ℕ) (row : List ℕ) → bit_and (B.word row 1) mask ≡ B.word row 1 → WellStep mask (B.step_of row)
well-step mask row e =
    let flags : bit_and (B.octet (B.word row 1)) mask ≡ B.octet (B.word row 1) = masked (B.word row 1) mask e in
    record {
      fits = step-of row;
      masked = by (λ st. bit_and (flags_of st) mask ≡ flags_of st) (eqb (B.word row 0) 1) flags
          (by (λ st. bit_and (flags_of st) mask ≡ flags_of st) (eqb (B.word row 0) 2) flags flags);
    }

-- a literal that is there is below FFFFFFFF
literal-of : (present literal : ℕ) → present ≤ 1 → (present ≡ 1 → literal < 0xFFFFFFFF) → FitsLiteral (B.literal_of present literal)
literal-of present literal h below = go (eqb present 0) refl
  where
    go : (t : Bool) → eqb present 0 ≡ t → FitsLiteral (if t then None else Some (B.index literal))
    go true e = tt
    go false e = let no : present ≡ 0 → ⊥ = eqb-false _ _ e in lt_of_le_of_lt (mod-le literal (2 ^ 32)) (below (omega arith))

pub input-of : (row : List ℕ) → sound_input row ≡ true → FitsInput (B.input_of row)
input-of row e =
    let behind = both (yes_no (B.word row 3)) _ (both (sound_chunk (B.word row 0) (B.word row 1) (B.word row 2)) _ e).second in
    record {
      chunk = chunk-of (B.word row 0) (B.word row 1) (B.word row 2);
      literal = literal-of (B.word row 3) (B.word row 4) (leb-true _ _ behind.first)
          (λ is. ltb-true _ _ (implied (eqb (B.word row 3) 1) _ behind.second (eq-eqb _ _ is)));
    }
