-- TABLES THAT KEEP THE RULES MEAN SOMETHING WELL-FORMED, under the same mask and in any tables that have the places.
use Prim.Native.Nat.{ℕ}
use mathlib.Core.Bool.{Bool, true, false, not, ◌&&◌, ◌||◌}
use mathlib.Core.Path.{◌≡◌, refl, sym, ◌∙◌}
use mathlib.Core.Logic.{◌⊎◌, inl, inr}
use mathlib.Core.List.{List, [], map}
use native.Mathlib.Omega.{arith}
use borrow.Author.Tests.{ltb-true, eqb-true}
use lib.Dec.{ltb, eqb}
use lib.ListN.{length, take}
use Rattle.grammar.specs.declared.Span.{Span}
use Rattle.grammar.specs.Combinators.{Each}
use Rattle.refusal.specs.declared.Refusal.{Refusal}
use Rattle.std.specs.Prelude.{Result, Ok as Checks, Err}
use Rattle.position_table.specs.Table.{checked}
use Rattle.format.specs.Artifact as A
use Rattle.format.specs.File.{scalar}
use Rattle.rows.specs.Back as B
use Rattle.rows.specs.Fits.{FitsBits, FitsName, FitsChain, FitsSwitch, FitsRange, FitsSite, FitsInput, FitsFunction}
use Rattle.written.specs.WellFormed.{Counted, WellString, WellList, WellWith, WellHeader, WellNames, WellConstants, WellAssign, WellStep, WellChain, WellCase, WellSwitches, WellSite, WellFunction, WellFormed}
use Rattle.written.proofs.Lists.{length-map}
use Rattle.model.specs.Lent.{Lent, end_rows, constant_rows, chain_rows, step_rows, switch_rows, case_rows, range_rows, custom_rows, input_rows, function_rows, parameter_rows, clip}
use Rattle.model.specs.Rules as R
use Rattle.model.specs.Tables.{assign_means, meaning_of}
use Rattle.model.specs.Written.{broken_of_ten}
use Rattle.emit.specs.Constants.{Enough}
use Rattle.emit.proofs.Listing.{between-all}
use Rattle.emit.proofs.Standing.{fit-stand}
use Rattle.upheld.specs.Native.{Native, Room}
use Rattle.rules.proofs.Both.{false-true, both}
use Rattle.judging.proofs.Kept.{kept}
use Rattle.upheld.proofs.Tests.{holds, each_both, each_map, each-so, each-any}
use Rattle.upheld.proofs.Rows.{Words, words-cut, length_cut, Held, held, ends-back, clip-few, clip-length, clip-string}
use Rattle.upheld.proofs.Fitting.{bits_of, chain-of, well-step, switch-of, case-of, range-of, site-of, input-of, function_of_lem, parameter-of}
use Rattle.upheld.proofs.Shares.{with-shares, with_cases}
use Rattle.upheld.proofs.Heads.{Sound, sound-of}
use Rattle.upheld.proofs.Constants.{Tops, tops-well}
use Rattle.upheld.proofs.Told.{Told, told}

-- a list of what rows mean, each by a fact of its row
list-well : {X : Type 0} (Ok : X → Type 0) (P : List ℕ → Type 0) (w : ℕ) (t : List ℕ) (of : List ℕ → X) → ((row : List ℕ) → P row → Ok (of row)) →
    {n places : ℕ} → Held n places → Each P (B.cut w n t) → WellList places Ok (map of (B.cut w n t))
list-well Ok P w t of one {n} rows each =
    let size : length (map of (B.cut w n t)) ≡ n = length-map of (B.cut w n t) ∙ length_cut w n t in
    record { counted = rw size rows.few; room = rw size rows.room; each = each_map P Ok of one (B.cut w n t) each }

-- a position table is empty or checks
sound-positions : (text : List ℕ) (span : Span) → R.sound_table text span ≡ true → (clip text span ≡ []) ⊎ (checked (clip text span) ≡ Checks tt)
sound-positions text span e = go (eqb span.size 0) refl e
  where
    by : (answer : Result Unit Refusal) → R.sound answer ≡ true → answer ≡ Checks tt
    by (Checks tt) e = refl
    by (Err r) e = false-true e

    go : (b : Bool) → eqb span.size 0 ≡ b → b || R.sound (checked (clip text span)) ≡ true → (clip text span ≡ []) ⊎ (checked (clip text span) ≡ Checks tt)
    go true q e = let none : span.size ≡ 0 = eqb-true _ _ q in inl (rw none)
    go false q e = inr (by (checked (clip text span)) e)

module _ (places : A.Places) (mask : ℕ) (m : Lent) (native : Native m) (room : Room places m) (rules : Told mask m) where
  abbrev string : (span : Span) → R.is_text m.text span ≡ true → WellString (clip m.text span)
  string span utf8 = clip-string m.text span native.text_few utf8

  header-well : WellHeader (record { caps = m.outside.header.caps; id_low = m.outside.header.low; id_high = m.outside.header.high })
  header-well = record { caps = record { below = native.caps }; id_low = record { below = native.low }; id_high = record { below = native.high } }

  names-well : WellNames places.names (meaning_of m).names
  unfolding meaning_of
  names-well =
      let back : map B.end_of (end_rows m) ≡ take m.outside.used.names m.ends =
      ends-back m.outside.used.names m.ends rules.counts.names (holds R.sound_word (end_rows m) rules.ends) in
      record {
        ends = list-well (FitsBits 32) (λ row. Unit) 1 m.ends B.end_of (λ row _. bits_of 32 (B.word row 0)) (held rules.counts.names native.ends room.names)
            (each-any (λ row. Unit) (λ row. tt) (end_rows m));
        rises = rw back rules.rises;
        last = rw back (rules.last ∙ sym (clip-length m.text m.outside.blob rules.blob_lies));
        blob = string m.outside.blob rules.blob;
      }

  -- rules 3, 5 and 7 of each row
  abbrev Utf8 : List ℕ → Type 0
  Utf8 row = not (R.named (R.tag row)) || R.is_text m.text (R.span_at 3 row) ≡ true

  abbrev Known : List ℕ → Type 0
  Known row = R.known_constant row ≡ true

  abbrev Char : List ℕ → Type 0
  Char row = not (eqb (R.tag row) 0x05) || scalar (B.word row 1) ≡ true

  constants-sound : Each (Sound m.text) (constant_rows m)
  constants-sound =
      let rows = constant_rows m in
      let words : Each Words rows = words-cut 8 m.outside.used.constants m.constants native.constants.words in
      each-so (λ row. (Words row × Known row) × (Utf8 row × Char row)) (Sound m.text)
      (λ row h. sound-of m.text native.text_few row h.0.0 h.0.1 h.1.0 h.1.1) rows
      (each_both (λ row. Words row × Known row) (λ row. Utf8 row × Char row) rows
      (each_both Words Known rows words (holds R.known_constant rows rules.constants))
      (each_both Utf8 Char rows rules.texts.constants (holds _ rows rules.chars)))

  enough : Enough A.levels m.outside.tops (map B.keyed_of (constant_rows m))
  enough =
      rw (between-all 8 B.keyed_of m.constants m.outside.used.constants) at
      (fit-stand (record { counts = rules.counts.constants; exact = rules.shares.constants; known = rules.constants; shallow = rules.shallow })).enough

  tops : Tops A.levels places.constants m.outside.tops (meaning_of m).constants
  unfolding meaning_of
  tops =
      let size : length (constant_rows m) ≡ m.outside.used.constants = length_cut 8 m.outside.used.constants m.constants in
      tops-well m.text native.text_few A.levels places.constants m.outside.tops (constant_rows m) enough constants-sound rules.texts.keys
      (omega (arith, rules.counts.constants, native.constants.few)) (omega (arith, room.constants))

  constants-well : WellConstants places.constants (meaning_of m).constants
  constants-well = record { counted = rw tops.count tops.few; room = tops.room; each = tops.each }

  tokens-well : WellList places.tokens WellString (meaning_of m).tokens
  unfolding meaning_of
  tokens-well =
      list-well WellString (λ row. R.is_text m.text (R.span_at 0 row) ≡ true) 2 m.tokens (λ row. clip m.text (B.span_of row))
      (λ row h. string (B.span_of row) h) (held rules.counts.tokens native.tokens room.tokens) rules.texts.tokens

  -- both tokens of an assign record
  abbrev Utf8s : List ℕ → Type 0
  Utf8s row = R.is_text m.text (R.span_at 0 row) && R.is_text m.text (R.span_at 3 row) ≡ true

  assign-well : (row : List ℕ) → Utf8s row → WellAssign (assign_means m.text (B.assign_of row))
  assign-well row h =
      let texts = both (R.is_text m.text (R.span_at 0 row)) (R.is_text m.text (R.span_at 3 row)) h in
      record {
        fits = record { op_assign_name = bits_of 32 (B.word row 2); op_name = bits_of 32 (B.word row 5) };
        op_assign = string (R.span_at 0 row) texts.first;
        op = string (R.span_at 3 row) texts.second;
      }

  assigns-well : WellList places.assigns WellAssign (meaning_of m).assigns
  unfolding meaning_of
  assigns-well =
      list-well WellAssign Utf8s 6 m.assigns (λ row. assign_means m.text (B.assign_of row)) assign-well
      (held rules.counts.assigns native.assigns room.assigns) rules.texts.assigns

  chains-well : WellWith places.chains places.steps (WellChain mask) (meaning_of m).chains
  unfolding meaning_of
  chains-well =
      with-shares FitsChain (WellStep mask) 6 B.chain_of (λ c. c.steps) (λ row. refl) 9 11 B.step_of m.chains m.steps
      (held rules.counts.chains native.chains room.chains) (held rules.counts.steps native.steps room.steps) rules.shares.steps
      (each-any (λ row. FitsChain (B.chain_of row)) chain-of (chain_rows m))
      (each-so (λ row. R.known_step mask row ≡ true) (λ row. WellStep mask (B.step_of row))
      (λ row h. well-step mask row (eqb-true _ _ (both (R.among 3 (R.tag row)) _ h).second)) (step_rows m) (holds (R.known_step mask) (step_rows m) rules.steps))

  switches-well : WellSwitches places.switches places.cases places.ranges m.outside.tops (meaning_of m).switches
  unfolding meaning_of
  switches-well =
      with_cases m.switches m.cases m.ranges (held rules.counts.switches native.switches room.switches)
      (held rules.counts.cases native.cases room.cases) (held rules.counts.ranges native.ranges room.ranges)
      rules.shares.cases rules.shares.ranges (each-any (λ row. FitsSwitch (B.switch_of row)) switch-of (switch_rows m))
      (each-so (λ row. ltb (B.word row 1) m.outside.tops ≡ true) (λ row. WellCase m.outside.tops (B.case_of row))
      (λ row h. case-of row (ltb-true _ _ h)) (case_rows m) (holds _ (case_rows m) rules.tops))
      (each-so Words (λ row. FitsRange (B.range_of row)) range-of (range_rows m) (words-cut 4 m.outside.used.ranges m.ranges native.ranges.words))

  customs-well : WellWith places.customs places.inputs WellSite (meaning_of m).customs
  unfolding meaning_of
  customs-well =
      with-shares FitsSite FitsInput 2 B.site_of (λ u. u.inputs) (λ row. refl) 3 5 B.input_of m.customs m.inputs
      (held rules.counts.customs native.customs room.customs) (held rules.counts.inputs native.inputs room.inputs) rules.shares.inputs
      (each-any (λ row. FitsSite (B.site_of row)) site-of (custom_rows m))
      (each-so (λ row. R.sound_input row ≡ true) (λ row. FitsInput (B.input_of row)) input-of (input_rows m) (holds R.sound_input (input_rows m) rules.inputs))

  functions-well : WellWith places.functions places.parameters WellFunction (meaning_of m).functions
  unfolding meaning_of
  functions-well =
      with-shares FitsFunction FitsName 3 B.function_of (λ f. f.parameters) (λ row. refl) 7 1 B.parameter_of m.functions m.parameters
      (held rules.counts.functions native.functions room.functions) (held rules.counts.parameters native.parameters room.parameters)
      rules.shares.parameters (each-any (λ row. FitsFunction (B.function_of row)) function_of_lem (function_rows m))
      (each-any (λ row. FitsName (B.parameter_of row)) parameter-of (parameter_rows m))

  counted : (span : Span) → Counted (clip m.text span)
  counted span = omega (arith, clip-few m.text span, native.text_few)

  whole : WellFormed places mask (meaning_of m)
  unfolding meaning_of
  whole =
      record {
        header = header-well;
        source = string m.outside.source rules.texts.source;
        names = names-well;
        constants = constants-well;
        tokens = tokens-well;
        assigns = assigns-well;
        chains = chains-well;
        switches = rw tops.count switches-well;
        customs = customs-well;
        main = native.main;
        functions = functions-well;
        code = counted m.outside.code;
        positions = record { counted = counted m.outside.positions; sound = sound-positions m.text m.outside.positions rules.positions };
      }

pub well-formed : (places : A.Places) (mask : ℕ) (m : Lent) → Native m → Room places m → broken_of_ten mask m ≡ 0 → WellFormed places mask (meaning_of m)
well-formed places mask m native room none = whole places mask m native room (told mask m (kept mask m none))
