-- The ten rules on tables, of tables that hold the rows of what was read.
use Prim.Native.Nat.{ℕ}
use mathlib.Core.Path.{◌≡◌, refl, sym, ◌∙◌, ap}
use mathlib.Core.Logic.{◌⊎◌, inl, inr}
use mathlib.Core.Bool.{Bool, true, false, not, ◌&&◌, ◌||◌}
use mathlib.Core.List.{List, [], map}
use native.Mathlib.Omega.{arith}
use lib.ListN.{length, take, drop, get_or, length-take, length-drop}
use lib.Seq.{take_at}
use lib.Dec.{ltb, eqb}
use borrow.Author.Tests.{lt-ltb, eq-eqb}
use Rattle.grammar.specs.declared.Span.{Span}
use Rattle.grammar.specs.Combinators.{Text}
use Rattle.refusal.specs.declared.Refusal.{Refusal}
use Rattle.std.specs.Prelude.{Result, Ok, Err}
use Rattle.position_table.specs.Table.{checked}
use Rattle.format.specs.declared.records.Case.{Case}
use Rattle.format.specs.Artifact as A
use Rattle.format.specs.File.{rising, last_end}
use Rattle.rows.specs.Back.{cut, word}
use Rattle.rows.specs.Fits.{FitsArtifact}
use Rattle.stored.proofs.Stored.{each}
use Rattle.written.specs.Meaning.{mean, mean_constant}
use Rattle.written.specs.WellFormed.{WellCase, WellFormed}
use Rattle.written.proofs.Lists.{length-map}
use Rattle.model.specs.Lent.{every}
use Rattle.model.specs.Rules as M
use Rattle.model.specs.Written.{first_of_ten, broken_of_ten}
use Rattle.reading.specs.Answer.{outside}
use Rattle.returned.specs.Lending.{lent_of}
use Rattle.returned.proofs.Texts.{Stands, Spelled, ToldArtifact}
use Rattle.returned.proofs.Lists.{items-used, cases-used, ranges-used}
use Rattle.returned.proofs.Records as records
use Rattle.returned.proofs.Held.{Held, ends-are, each-every, every-row, every-item, shares}
use Rattle.returned.proofs.Trees.{Keeps, Key, Tops, stands-inside, spelled-key, tops}

-- ── tests that hold ──

both : {a b : Bool} → a ≡ true → b ≡ true → (a && b) ≡ true
both e f = rw (e, f)

-- no test fails, so none is the first
first-of-ten : {b1 b2 b3 b4 b5 b6 b7 b8 b9 b10 : Bool} → b1 ≡ true → b2 ≡ true → b3 ≡ true → b4 ≡ true → b5 ≡ true → b6 ≡ true → b7 ≡ true → b8 ≡ true →
    b9 ≡ true → b10 ≡ true → first_of_ten b1 b2 b3 b4 b5 b6 b7 b8 b9 b10 ≡ 0
unfolding first_of_ten
first-of-ten e1 e2 e3 e4 e5 e6 e7 e8 e9 e10 = rw (e1, e2, e3, e4, e5, e6, e7, e8, e9, e10)

-- a text is as long as its span
stands-long : {s : List ℕ} (t : Text) → Stands s t → length t.bytes ≡ t.span.size
stands-long {s} t ok =
    rw ok.is (omega (arith, length-take t.span.size (drop t.span.start s), length-drop t.span.start s, ok.lies))

-- ── of what was read: its texts and numbers, and the tables that hold its rows ──

module _ (places : A.Places) (mask : ℕ) (s : List ℕ) (a : A.Artifact) (tables : List (List ℕ)) (told : ToldArtifact s a) (fits : FitsArtifact a)
    (well : WellFormed places mask (mean a)) (held : Held a tables) where
  constants : Tops s (get_or tables 1 []) A.levels (outside a).used.constants (length a.constants)
  constants = tops s A.levels a.constants told.constants (get_or tables 1 []) held.constants.0 held.constants.1

  -- ── 1. counts fit and shares use their tables exactly ──

  holds1 : M.rule1 (lent_of (outside a) tables s) ≡ true
  holds1 =
      both
      (both (both (both held.names.room constants.room) (both held.tokens.room held.assigns.room))
      (both (both (both held.chains.room held.steps.room) (both held.switches.room (both held.cases.room held.ranges.room)))
      (both (both held.customs.room held.inputs.room) (both held.functions.room held.parameters.room))))
      (both constants.owes
      (both (shares held.chains (λ w. w.items) 6 (items-used a.chains) (each (λ w ok. records.chain-says w.whole ∙ ok.says) a.chains well.chains.list.each))
      (both (shares held.switches (λ w. w.cases) 0 (cases-used a.switches) (each (λ w ok. ok.says_cases) a.switches well.switches.list.each))
      (both (shares held.switches (λ w. w.ranges) 1 (ranges-used a.switches) (each (λ w ok. ok.says_ranges) a.switches well.switches.list.each))
      (both (shares held.customs (λ w. w.items) 2 (items-used a.customs) (each (λ w ok. ok.says) a.customs well.customs.list.each))
      (shares held.functions (λ w. w.items) 3 (items-used a.functions) (each (λ w ok. ok.says) a.functions well.functions.list.each)))))))

  -- ── 2, 3. spans lie in the lent text, strings are UTF-8 ──

  -- the constants' rows, and those of them that have keys
  abbrev constant_rows : List (List ℕ)
  constant_rows = cut 8 (outside a).used.constants (get_or tables 1 [])

  each_row : (test : List ℕ → Bool) → ((row : List ℕ) → Keeps s row → test row ≡ true) → every test constant_rows ≡ true
  each_row test one = each-every test constant_rows (each one constant_rows constants.keeps)

  each-key : (test : Span → Bool) → ((span : Span) → Key s span → test span ≡ true) → every (λ row. test (M.span_at 6 row)) (M.keyed constant_rows) ≡ true
  each-key test one = each-every (λ row. test (M.span_at 6 row)) (M.keyed constant_rows) (each (λ row ok. one (M.span_at 6 row) ok) (M.keyed constant_rows) constants.keys)

  -- a test that holds of each string, and of the constants' texts that it asks
  texts : (which : ℕ → Bool) (test : Span → Bool) → ((row : List ℕ) → Keeps s row → (not (which (M.tag row)) || test (M.span_at 3 row)) ≡ true) →
      ((span : Span) → Key s span → test span ≡ true) → M.texts which test (outside a).used (get_or tables 1 []) (get_or tables 2 []) (get_or tables 3 []) ≡ true
  texts which test row key =
      both (both (each_row (λ row. not (which (M.tag row)) || test (M.span_at 3 row)) row) (each-key test key))
      (both (every-row held.tokens (λ row. test (M.span_at 0 row)) (each one a.tokens told.tokens))
      (every-row held.assigns (λ row. test (M.span_at 0 row) && test (M.span_at 3 row))
      (each (λ x ok. both (one x.op_assign ok.op_assign) (one x.op ok.op)) a.assigns told.assigns)))
    where
      one : (t : Text) → Spelled s t → test t.span ≡ true
      one t ok = key t.span (spelled-key t ok)

  holds2 : M.rule2 (lent_of (outside a) tables s) ≡ true
  holds2 =
      both
      (both (both (stands-inside a.source told.source.stands) (stands-inside a.names.blob told.blob.stands))
      (both (stands-inside a.code told.code) (stands-inside a.positions told.positions)))
      (texts M.texted (M.lies s) (λ row ok. ok.inside) (λ span ok. ok.inside))

  holds3 : M.rule3 (lent_of (outside a) tables s) ≡ true
  holds3 = both (spelled-key a.source told.source).text (texts M.named (M.is_text s) (λ row ok. ok.text) (λ span ok. ok.text))

  -- ── 4. the names rule ──

  holds4 : M.rule4 (lent_of (outside a) tables s) ≡ true
  holds4 = both (both rises (eq-eqb _ _ last)) (spelled-key a.names.blob told.blob).text
    where
      ends : take (length a.names.ends) (get_or tables 0 []) ≡ a.names.ends
      ends = rw (held.ends.1, ends-are a.names.ends) (take_at a.names.ends held.ends.0 _ refl)

      rises : rising 0 (take (length a.names.ends) (get_or tables 0 [])) ≡ true
      rises = rw ends well.names.rises

      last : last_end 0 (take (length a.names.ends) (get_or tables 0 [])) ≡ a.names.blob.span.size
      last = rw ends (well.names.last ∙ stands-long a.names.blob told.blob.stands)

  -- ── 5, 6, 7. tags are known, levels do, chars are scalars ──

  holds5 : M.rule5 mask (lent_of (outside a) tables s) ≡ true
  holds5 =
      both
      (both (each_row M.known_constant (λ row ok. ok.known))
      (every-row held.chains M.known_chain (each (λ w _. records.known-chain w.whole) a.chains well.chains.list.each)))
      (both (every-item (λ w. w.items) a.chains held.steps (M.known_step mask)
      (each (λ w ok. each (records.known_step_lem mask) w.items ok.fits.items) a.chains well.chains.list.each))
      (every-row held.functions M.known_function (each (λ w _. records.known-function w.whole) a.functions well.functions.list.each)))

  holds6 : M.rule6 (lent_of (outside a) tables s) ≡ true
  holds6 = ap M.not_too_deep constants.shallow

  holds7 : M.rule7 (lent_of (outside a) tables s) ≡ true
  holds7 = each_row _ (λ row ok. ok.char)

  -- ── 8. cases name top constants ──

  holds8 : M.rule8 (lent_of (outside a) tables s) ≡ true
  holds8 =
      every-item (λ w. w.cases) a.switches held.cases (λ row. ltb (word row 1) (length a.constants))
      (each (λ w ok. each top w.cases ok.fits.cases) a.switches well.switches.list.each)
    where
      top : (c : Case) → WellCase (length (map (mean_constant A.levels) a.constants)) c → ltb c.constant.0 (length a.constants) ≡ true
      top c ok = lt-ltb _ _ (rw (length-map (mean_constant A.levels) a.constants) at ok.top)

  -- ── 9. numbers fit their kinds ──

  holds9 : M.rule9 (lent_of (outside a) tables s) ≡ true
  holds9 =
      both refl
      (both front
      (both
      (both (every-row held.switches M.sound_switch (each (λ w ok. records.sound-switch w.whole ok.whole) a.switches fits.switches))
      (both (every-item (λ w. w.cases) a.switches held.cases M.sound_case (each (λ w ok. each records.sound-case w.cases ok.cases) a.switches fits.switches))
      (every-item (λ w. w.ranges) a.switches held.ranges M.sound_range (each (λ w ok. each records.sound-range w.ranges ok.ranges) a.switches fits.switches))))
      callables))
    where
      front : M.sound_front (outside a).used (get_or tables 0 []) (get_or tables 3 []) (get_or tables 4 []) (get_or tables 5 []) ≡ true
      front =
          both (both (every-row held.names M.sound_word (each records.sound-end a.names.ends fits.ends))
          (every-row held.assigns M.sound_assign (each records.sound-assign a.assigns fits.assigns)))
          (both (every-row held.chains M.sound_chain (each (λ w ok. records.sound-chain w.whole ok.whole) a.chains fits.chains))
          (every-item (λ w. w.items) a.chains held.steps M.sound_step
          (each (λ w ok. each records.sound-step w.items ok.items) a.chains fits.chains)))

      callables : M.sound_callables (outside a).used (get_or tables 9 []) (get_or tables 10 []) (get_or tables 11 []) (get_or tables 12 []) ≡ true
      callables =
          both (both (every-row held.customs M.sound_site (each (λ w ok. records.sound-site w.whole ok.whole) a.customs fits.customs))
          (every-item (λ w. w.items) a.customs held.inputs M.sound_input
          (each (λ w ok. each records.sound-input w.items ok.items) a.customs fits.customs)))
          (both (every-row held.functions M.sound_function (each (λ w ok. records.sound-function w.whole ok.whole) a.functions fits.functions))
          (every-item (λ w. w.items) a.functions held.parameters M.sound_word
          (each (λ w ok. each records.sound-parameter w.items ok.items) a.functions fits.functions)))

  -- ── 10. a position table is empty or checks ──

  holds10 : M.rule10 (lent_of (outside a) tables s) ≡ true
  holds10 = go well.positions.sound
    where
      or-true : (b : Bool) → (b || true) ≡ true
      or-true true = refl
      or-true false = refl

      go : (a.positions.bytes ≡ []) ⊎ (checked a.positions.bytes ≡ Ok tt) → M.sound_table s a.positions.span ≡ true
      go (inl e) =
          let none : a.positions.span.size ≡ 0 = sym (stands-long a.positions told.positions) ∙ ap length e in
          rw (eq-eqb _ 0 none)
      go (inr e) = rw (← told.positions.is, e) (or-true (eqb a.positions.span.size 0))

  -- ── the ten ──

  pub none-broken : broken_of_ten mask (lent_of (outside a) tables s) ≡ 0
  unfolding broken_of_ten
  none-broken = first-of-ten holds1 holds2 holds3 holds4 holds5 holds6 holds7 holds8 holds9 holds10
