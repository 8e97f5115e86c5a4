-- What an accepted read means is well-formed, under the same mask and with the same places.
use Rattle.std.proofs.Common.{if◌then◌else◌}
use Prim.Native.Nat.{ℕ, ◌≤◌}
use mathlib.Core.Path.{◌≡◌, refl}
use mathlib.Core.Logic.{◌⊎◌, inl, inr}
use mathlib.Core.Bool.{Bool, true, false}
use mathlib.Core.List.{List, [], map, foldl}
use native.Mathlib.Omega.{arith}
use lib.ListN.{length}
use lib.Dec.{eqb}
use lib.Bits.{bit_and}
use borrow.Author.Tests.{ltb-true, eqb-true}
use Rattle.grammar.specs.declared.Cursor.{Cursor}
use Rattle.grammar.specs.Outcome.{start, got, Parser, ◌>>=◌}
use Rattle.grammar.specs.Combinators.{Text}
use Rattle.grammar.proofs.RoundTrip.{itself}
use Rattle.refusal.specs.declared.Refusal.{Refusal}
use Rattle.std.specs.Prelude.{Result, Ok as Sound, Err}
use Rattle.position_table.specs.Table.{checked}
use Rattle.tables.specs.Table.{With, count_items}
use Rattle.format.specs.Artifact as A
use Rattle.format.specs.File as definition
use Rattle.leaves.proofs.Leaves.{Leaves, leaves-pure, leaves-refuse, leaves-then, leaves-bind, leaves-check, leaves-tag, leaves-unknown}
use Rattle.leaves.proofs.Accepted.{sections-got}
use Rattle.rows.specs.Fits.{FitsBits, FitsName, FitsRange, FitsInput}
use Rattle.rows.specs.Given.{Bytes}
use Rattle.stored.proofs.Fitting.{leaves-number, leaves-name, leaves-chunk, leaves-root, leaves-tail, leaves-range, leaves-input, leaves-this, leaves-step}
use Rattle.written.specs.Meaning.{mean_text, mean_names, mean_constant, mean_assign, mean}
use Rattle.written.specs.WellFormed.{WellString, WellList, WellWith, WellSite, WellFunction, WellHeader, WellNames, WellAssign, flags_of, WellStep, WellChain, WellCase, WellSwitch, CaseRoom, WellSwitches, WellPositions, WellFormed}
use Rattle.written.proofs.Lists.{length-map, map-itself}
use Rattle.written.proofs.Trees.{leaves-constants}
use Rattle.written.proofs.Leaving.{leaves-fixed, Taken, leaves-bytes, leaves-string, leaves-records, whole-list, leaves-top, leaves-items, leaves-nested}

-- ── header, names, tokens, assign records ──

leaves-header : {s : List ℕ} → Bytes s → Leaves s definition.header WellHeader
unfolding definition.header
leaves-header bytes =
    leaves-bind _ _ (λ m. leaves-bind _ _ (λ _. leaves-bind _ _ (λ version. leaves-bind _ _ (λ _. leaves-bind _ _ (λ int. leaves-bind _ _ (λ float.
    leaves-then _ (leaves-fixed bytes 4) (λ caps a. leaves-bind _ _ (λ _.
    leaves-then _ (leaves-fixed bytes 8) (λ low b. leaves-then _ (leaves-fixed bytes 8) (λ high c.
    leaves-pure _ (record { caps = record { below = omega arith }; id_low = record { below = omega arith }; id_high = record { below = omega arith } })))))))))))

module _ {s : List ℕ} where
  leaves-names : (places : ℕ) → Leaves s (definition.names places) (λ ns. WellNames places (mean_names ns))
  unfolding definition.names
  leaves-names places =
      leaves-then _ (leaves-number 64) (λ n h. leaves-bind _ _ (λ _.
      leaves-then _ (leaves-records itself (FitsBits 32) 1 places (leaves-number 32) n 0 h.below (omega arith)) (λ ends w.
      let well : WellList places (FitsBits 32) ends = rw (map-itself ends) at (whole-list w) in
      leaves-then _ leaves-bytes (λ all taken. leaves-check _ _ _ (λ rises. leaves-check _ _ _ (λ last. leaves-check _ _ _ (λ utf8.
      leaves-pure _ (record { ends = well; rises = rises; last = eqb-true _ _ last; blob = record { counted = taken.counted; utf8 = utf8 } }))))))))

  leaves-tokens : (places : ℕ) → Leaves s (definition.tokens places) (λ ts. WellList places WellString (map mean_text ts))
  unfolding definition.tokens
  leaves-tokens places = leaves-top mean_text WellString 3 places leaves-string

  leaves-assign : Leaves s definition.assign (λ a. WellAssign (mean_assign a))
  unfolding definition.assign
  leaves-assign =
      leaves-then _ leaves-string (λ op_assign a. leaves-then _ leaves-name (λ op_assign_name b. leaves-then _ leaves-string (λ op c. leaves-then _ leaves-name (λ op_name d.
      leaves-pure _ (record { fits = record { op_assign_name = b; op_name = d }; op_assign = a; op = c })))))

  leaves-assigns : (places : ℕ) → Leaves s (definition.assigns places) (λ os. WellList places WellAssign (map mean_assign os))
  unfolding definition.assigns
  leaves-assigns places = leaves-top mean_assign WellAssign 4 places leaves-assign

-- ── records with items ──

-- both facts of such a list
with_items : {X Y : Type 0} {s : List ℕ} {p : Parser (List (With X Y))} {places item_places : ℕ} {Ok : With X Y → Type 0} →
    Leaves s p (λ ws. WellList places Ok ws × (foldl count_items 0 ws ≤ item_places)) → Leaves s p (WellWith places item_places Ok)
with_items leaves = record { always = λ c ws last e. let w = leaves.always c ws last e in record { list = w.0; item_room = w.1 } }

module _ {s : List ℕ} (bytes : Bytes s) (mask : ℕ) where
  leaves-masked : Leaves s (definition.step mask) (λ st. bit_and (flags_of st) mask ≡ flags_of st)
  unfolding definition.step
  leaves-masked =
      leaves-bind _ _ (λ tag. leaves-bind _ _ (λ flags. leaves-check _ _ _ (λ e.
      let within : bit_and flags mask ≡ flags = eqb-true _ _ e in
      leaves-tag _ _ _ (leaves-bind _ _ (λ operand. leaves-bind _ _ (λ at. leaves-bind _ _ (λ bracket. leaves-pure _ within))))
      (leaves-tag _ _ _ (leaves-bind _ _ (λ name. leaves-bind _ _ (λ getter. leaves-bind _ _ (λ setter. leaves-bind _ _ (λ at. leaves-pure _ within)))))
      (leaves-tag _ _ _ (leaves-bind _ _ (λ name. leaves-bind _ _ (λ argc. leaves-bind _ _ (λ operand. leaves-bind _ _ (λ at. leaves-pure _ within)))))
      (leaves-unknown _ _))))))

  leaves-well-step : Leaves s (definition.step mask) (WellStep mask)
  leaves-well-step =
      record { always = λ c st next e. record { fits = (leaves-step bytes mask).always c st next e; masked = leaves-masked.always c st next e } }

  leaves-chain : (step_places used : ℕ) → used ≤ step_places → Leaves s (definition.chain step_places mask used) (λ c. WellChain mask c × (count_items used c ≤ step_places))
  unfolding definition.chain
  leaves-chain step_places used r =
      leaves-then _ leaves-root (λ root a. leaves-then _ (leaves-number 16) (λ operands b.
      leaves-then _ (leaves-items (WellStep mask) 6 step_places used leaves-well-step r) (λ steps c.
      leaves-then _ leaves-tail (λ tail d.
      leaves-pure _ (record { fits = record { whole = record { root = a; operands = b; tail = d }; items = c.each }; says = refl; counted = c.counted }, c.room)))))

  leaves-chains : (places step_places : ℕ) → Leaves s (definition.chains places step_places mask) (WellWith places step_places (WellChain mask))
  unfolding definition.chains
  leaves-chains places step_places =
      with_items (leaves-nested count_items (WellChain mask) (λ used. used ≤ step_places) 5 places (leaves-chain step_places) 0 (omega arith))

module _ {s : List ℕ} where
  leaves-site : (input_places used : ℕ) → used ≤ input_places → Leaves s (definition.site input_places used) (λ u. WellSite u × (count_items used u ≤ input_places))
  unfolding definition.site
  leaves-site input_places used r =
      leaves-then _ (leaves-number 32) (λ key a. leaves-then _ (leaves-number 32) (λ state b.
      leaves-then _ (leaves-items FitsInput 11 input_places used leaves-input r) (λ inputs c.
      leaves-pure _ (record { fits = record { whole = record { key = a; state = b }; items = c.each }; says = refl; counted = c.counted }, c.room))))

  leaves-customs : (places input_places : ℕ) → Leaves s (definition.customs places input_places) (WellWith places input_places WellSite)
  unfolding definition.customs
  leaves-customs places input_places =
      with_items (leaves-nested count_items WellSite (λ used. used ≤ input_places) 10 places (leaves-site input_places) 0 (omega arith))

  leaves-function : (parameter_places used : ℕ) → used ≤ parameter_places →
      Leaves s (definition.function parameter_places used) (λ f. WellFunction f × (count_items used f ≤ parameter_places))
  unfolding definition.function
  leaves-function parameter_places used r =
      leaves-then _ leaves-name (λ name a. leaves-bind _ _ (λ access. leaves-then _ leaves-this (λ this b.
      leaves-then _ (leaves-items FitsName 13 parameter_places used leaves-name r) (λ parameters c.
      leaves-then _ leaves-chunk (λ chunk d.
      leaves-pure _ (record { fits = record { whole = record { name = a; this = b; chunk = d }; items = c.each }; says = refl; counted = c.counted }, c.room))))))

  leaves-functions : (places parameter_places : ℕ) → Leaves s (definition.functions places parameter_places) (WellWith places parameter_places WellFunction)
  unfolding definition.functions
  leaves-functions places parameter_places =
      with_items (leaves-nested count_items WellFunction (λ used. used ≤ parameter_places) 12 places (leaves-function parameter_places) 0 (omega arith))

  leaves-case : (tops : ℕ) → Leaves s (definition.case tops) (WellCase tops)
  unfolding definition.case
  leaves-case tops =
      leaves-then _ (leaves-number 32) (λ blocks a. leaves-bind _ _ (λ at. leaves-then _ (leaves-number 32) (λ k b. leaves-check _ _ _ (λ e.
      leaves-pure _ (record { fits = record { blocks = a; constant = b }; top = ltb-true _ _ e })))))

  leaves-switch : (case_places range_places tops : ℕ) (used : A.UsedCases) → CaseRoom case_places range_places used →
      Leaves s (definition.switch case_places range_places tops used) (λ w. WellSwitch tops w × CaseRoom case_places range_places (A.count_cases used w))
  unfolding definition.switch
  leaves-switch case_places range_places tops used r =
      leaves-then _ (leaves-items (WellCase tops) 8 case_places used.cases (leaves-case tops) r.cases) (λ cases a.
      leaves-then _ (leaves-items FitsRange 9 range_places used.ranges leaves-range r.ranges) (λ ranges b.
      leaves-then _ (leaves-number 32) (λ default c.
      leaves-pure _ (
        record {
          fits = record { whole = c; cases = a.each; ranges = b.each };
          says_cases = refl;
          says_ranges = refl;
          counted_cases = a.counted;
          counted_ranges = b.counted;
        },
        record { cases = a.room; ranges = b.room },
      ))))

  leaves-switches : (places case_places range_places tops : ℕ) →
      Leaves s (definition.switches places case_places range_places tops) (WellSwitches places case_places range_places tops)
  unfolding definition.switches
  leaves-switches places case_places range_places tops =
      record {
        always = λ c ws last e.
            let w = (leaves-nested A.count_cases (WellSwitch tops) (CaseRoom case_places range_places) 7 places (leaves-switch case_places range_places tops)
            (record { cases = 0; ranges = 0 }) (record { cases = omega arith; ranges = omega arith })).always c ws last e in
            record { list = w.0; item_room = w.1 };
      }

-- ── the position table ──

leaves-sound : {s : List ℕ} {B : Type 0} (answer : Result Unit Refusal) (f : Unit → Parser B) {Ok : B → Type 0} → (answer ≡ Sound tt → Leaves s (f tt) Ok) →
    Leaves s (definition.sound answer >>= f) Ok
unfolding definition.sound
leaves-sound (Sound tt) f rest = leaves-bind _ _ (λ _. rest refl)
leaves-sound (Err r) f rest = leaves-then f {First = λ _. ⊥} (leaves-refuse r) (λ _ no. absurd no)

empty-or-sound : (t : Text) → Taken t → (if eqb t.span.size 0 then Sound tt else checked t.bytes) ≡ Sound tt → WellPositions t.bytes
empty-or-sound t taken e = record { counted = taken.counted; sound = go (eqb t.span.size 0) refl e }
  where
    go : (b : Bool) → eqb t.span.size 0 ≡ b → (if b then Sound tt else checked t.bytes) ≡ Sound tt → (t.bytes ≡ []) ⊎ (checked t.bytes ≡ Sound tt)
    go true q e = inl (taken.empty (eqb-true _ _ q))
    go false q e = inr e

leaves-positions : {s : List ℕ} → Leaves s definition.positions (λ t. WellPositions (mean_text t))
unfolding definition.positions
leaves-positions = leaves-then _ leaves-bytes (λ t taken. leaves-sound _ _ (λ e. leaves-pure _ (empty-or-sound t taken e)))

-- ── the whole ──

module _ (P : A.Places) (mask : ℕ) (s : List ℕ) (bytes : Bytes s) where
  leaves-artifact : Leaves s (definition.artifact P mask) (λ a. WellFormed P mask (mean a))
  unfolding definition.artifact
  leaves-artifact =
      leaves-then _ (leaves-header bytes) (λ header h. leaves-then _ leaves-string (λ source a. leaves-then _ (leaves-names P.names) (λ ns b.
      leaves-then _ (leaves-constants bytes P.constants) (λ cs c. leaves-then _ (leaves-tokens P.tokens) (λ ts d.
      leaves-then _ (leaves-assigns P.assigns) (λ os e. leaves-then _ (leaves-chains bytes mask P.chains P.steps) (λ ls f.
      leaves-then _ (leaves-switches P.switches P.cases P.ranges (length cs)) (λ ws g.
      leaves-then _ (leaves-customs P.customs P.inputs) (λ us i. leaves-then _ leaves-chunk (λ main j.
      leaves-then _ (leaves-functions P.functions P.parameters) (λ fs k. leaves-then _ leaves-bytes (λ code l. leaves-then _ leaves-positions (λ ps m.
      leaves-pure _ (record {
        header = h;
        source = a;
        names = b;
        constants = c;
        tokens = d;
        assigns = e;
        chains = f;
        switches = rw (length-map (mean_constant A.levels) cs) g;
        customs = i;
        main = j;
        functions = k;
        code = l.counted;
        positions = m;
      }))))))))))))))

  pub accepted-well-formed : (a : A.Artifact) (last : Cursor) → definition.read P mask s ≡ got a last → WellFormed P mask (mean a)
  accepted-well-formed a last e = leaves-artifact.always start a last (sections-got P mask s a last e)
