-- Where each table keeps all rules that look at it, none of the ten is broken.
use Prim.Native.Nat.{ℕ}
use mathlib.Core.Path.{◌≡◌, refl}
use mathlib.Core.Bool.{Bool, true, not, ◌&&◌, ◌||◌}
use mathlib.Core.List.{List, [], ◌∷◌}
use lib.Dec.{ltb, eqb}
use Rattle.format.specs.declared.answer.Used.{Used}
use Rattle.format.specs.File.{scalar}
use Rattle.rows.specs.Back.{cut, word}
use Rattle.model.specs.Lent.{Lent, every, constant_rows, token_rows, assign_rows, chain_rows, step_rows, switch_rows, case_rows, custom_rows, input_rows, function_rows}
use Rattle.model.specs.Rules.{tag, named, texted, shares_fit, lies, is_text, span_at, outside_lies, keyed, known_constant, known_chain, known_step, known_function, sound_assign, sound_chain, sound_step, sound_switch, sound_case, sound_site, sound_input, sound_function, sound_word, rule4, rule6, rule10}
use Rattle.model.specs.Written.{first_of_ten, broken_of_ten}
use Rattle.rules.specs.Once.{text_keeps, constant_keeps, assign_keeps, texts_keep, links_keep, switches_keep, callables_keep}
use Rattle.rules.proofs.Both.{both}
use Rattle.judging.specs.Standing.{RowsStand}
use Rattle.judging.proofs.Kept.{Kept}

both_hold : {a b : Bool} → a ≡ true → b ≡ true → a && b ≡ true
both_hold p q = rw (p, q)

-- a test that follows from another one, for each
each-so : {X : Type 0} (p q : X → Bool) → ((x : X) → p x ≡ true → q x ≡ true) → (xs : List X) → every p xs ≡ true → every q xs ≡ true
each-so p q so [] e = refl
each-so p q so (x ∷ xs) e =
    let here = both (p x) (every p xs) e in
    both_hold (so x here.first) (each-so p q so xs here.second)

-- the first, and the second, of two tests that are joined for each
firsts : {X : Type 0} (p q : X → Bool) (xs : List X) → every (λ x. p x && q x) xs ≡ true → every p xs ≡ true
firsts p q = each-so (λ x. p x && q x) p (λ x e. (both (p x) (q x) e).first)

seconds : {X : Type 0} (p q : X → Bool) (xs : List X) → every (λ x. p x && q x) xs ≡ true → every q xs ≡ true
seconds p q = each-so (λ x. p x && q x) q (λ x e. (both (p x) (q x) e).second)

joined : {X : Type 0} (p q : X → Bool) (xs : List X) → every p xs ≡ true → every q xs ≡ true → every (λ x. p x && q x) xs ≡ true
joined p q [] e f = refl
joined p q (x ∷ xs) e f =
    let left = both (p x) (every p xs) e in
    let right = both (q x) (every q xs) f in
    both_hold (both_hold left.first right.first) (joined p q xs left.second right.second)

unbroken : (mask : ℕ) (m : Lent) → Kept mask m → broken_of_ten mask m ≡ 0
unfolding broken_of_ten first_of_ten
unbroken mask m k = rw (k.one, k.two, k.three, k.four, k.five, k.six, k.seven, k.eight, k.nine, k.ten)

-- ── what all rules together say of the rows of a table, rule by rule ──

module _ (text : List ℕ) (rows : List (List ℕ)) where
  abbrev text_lies : List ℕ → Bool
  text_lies row = not (texted (tag row)) || lies text (span_at 3 row)

  abbrev name_is_text : List ℕ → Bool
  name_is_text row = not (named (tag row)) || is_text text (span_at 3 row)

  abbrev char_is_scalar : List ℕ → Bool
  char_is_scalar row = not (eqb (tag row) 0x05) || scalar (word row 1)

  record Constants : Type 0 where
    two : every text_lies rows ≡ true
    three : every name_is_text rows ≡ true
    five : every known_constant rows ≡ true
    seven : every char_is_scalar rows ≡ true

  constants : every (constant_keeps text) rows ≡ true → Constants
  constants e =
      let texts : every (λ row. text_lies row && name_is_text row) rows ≡ true = firsts _ (λ row. known_constant row && char_is_scalar row) rows e in
      let tags : every (λ row. known_constant row && char_is_scalar row) rows ≡ true = seconds (λ row. text_lies row && name_is_text row) _ rows e in
      record {
        two = firsts text_lies name_is_text rows texts;
        three = seconds text_lies name_is_text rows texts;
        five = firsts known_constant char_is_scalar rows tags;
        seven = seconds known_constant char_is_scalar rows tags;
      }

  -- a span in each row: keys and tokens
  record Spans (at : ℕ) : Type 0 where
    two : every (λ row. lies text (span_at at row)) rows ≡ true
    three : every (λ row. is_text text (span_at at row)) rows ≡ true

  spans : (at : ℕ) → every (λ row. lies text (span_at at row) && is_text text (span_at at row)) rows ≡ true → Spans at
  spans at e =
      record {
        two = firsts (λ row. lies text (span_at at row)) (λ row. is_text text (span_at at row)) rows e;
        three = seconds (λ row. lies text (span_at at row)) (λ row. is_text text (span_at at row)) rows e;
      }

  record Assigns : Type 0 where
    two : every (λ row. lies text (span_at 0 row) && lies text (span_at 3 row)) rows ≡ true
    three : every (λ row. is_text text (span_at 0 row) && is_text text (span_at 3 row)) rows ≡ true
    nine : every sound_assign rows ≡ true

  assigns : every (assign_keeps text) rows ≡ true → Assigns
  assigns e =
      let tokens : every (λ row. text_keeps text (span_at 0 row) && text_keeps text (span_at 3 row)) rows ≡ true = seconds sound_assign _ rows e in
      let left = spans 0 (firsts (λ row. text_keeps text (span_at 0 row)) (λ row. text_keeps text (span_at 3 row)) rows tokens) in
      let right = spans 3 (seconds (λ row. text_keeps text (span_at 0 row)) (λ row. text_keeps text (span_at 3 row)) rows tokens) in
      record {
        two = joined (λ row. lies text (span_at 0 row)) (λ row. lies text (span_at 3 row)) rows left.two right.two;
        three = joined (λ row. is_text text (span_at 0 row)) (λ row. is_text text (span_at 3 row)) rows left.three right.three;
        nine = firsts sound_assign (λ row. text_keeps text (span_at 0 row) && text_keeps text (span_at 3 row)) rows e;
      }

-- ── the ten rules ──

module _ {m : Lent} (stand : RowsStand m) where
  abbrev u : Used
  u = m.outside.used

  abbrev outer_holds : Bool
  outer_holds =
      m.numbers_fit && outside_lies m.text m.outside.source m.outside.blob m.outside.code m.outside.positions

  abbrev around_holds : Bool
  around_holds = outer_holds && ((is_text m.text m.outside.source && rule4 m) && every sound_word (cut 1 u.names m.ends))

  pub none-broken : (mask : ℕ) →
      shares_fit u m.outside.tops m.constants m.chains m.switches m.customs m.functions ≡ true →
      rule6 m ≡ true → around_holds ≡ true →
      texts_keep m ≡ true → links_keep mask m ≡ true → switches_keep m ≡ true → callables_keep m ≡ true →
      rule10 m ≡ true → broken_of_ten mask m ≡ 0
  none-broken mask shares six around texts chained switched callables ten =
      let spots = both outer_holds _ around in
      let outer = both m.numbers_fit _ spots.first in
      let strings = both (is_text m.text m.outside.source && rule4 m) _ spots.second in
      let names = both (is_text m.text m.outside.source) (rule4 m) strings.first in
      let told = both (every (constant_keeps m.text) (constant_rows m) && every (λ row. text_keeps m.text (span_at 6 row)) (keyed (constant_rows m))) _ texts in
      let tree = both (every (constant_keeps m.text) (constant_rows m)) _ told.first in
      let plain = both (every (λ row. text_keeps m.text (span_at 0 row)) (token_rows m)) _ told.second in
      let cs = constants m.text (constant_rows m) tree.first in
      let ks = spans m.text (keyed (constant_rows m)) 6 tree.second in
      let ts = spans m.text (token_rows m) 0 plain.first in
      let rs = assigns m.text (assign_rows m) plain.second in
      let links = both (every (λ row. known_chain row && sound_chain row) (chain_rows m)) _ chained in
      let choices = both (every sound_switch (switch_rows m)) _ switched in
      let items = both (every (λ row. ltb (word row 1) m.outside.tops && sound_case row) (case_rows m)) _ choices.second in
      let calls = both (every sound_site (custom_rows m) && every sound_input (input_rows m)) _ callables in
      let fs = both (every (λ row. known_function row && sound_function row) (function_rows m)) _ calls.second in
      unbroken mask m (record {
        one = both_hold stand.counts shares;
        two = both_hold outer.second (both_hold (both_hold cs.two ks.two) (both_hold ts.two rs.two));
        three = both_hold names.first (both_hold (both_hold cs.three ks.three) (both_hold ts.three rs.three));
        four = names.second;
        five =
            both_hold
            (both_hold cs.five (firsts known_chain sound_chain (chain_rows m) links.first))
            (both_hold (firsts (known_step mask) sound_step (step_rows m) links.second) (firsts known_function sound_function (function_rows m) fs.first));
        six = six;
        seven = cs.seven;
        eight = firsts (λ row. ltb (word row 1) m.outside.tops) sound_case (case_rows m) items.first;
        nine =
            both_hold
            outer.first
            (both_hold
            (both_hold (both_hold strings.second rs.nine) (both_hold (seconds known_chain sound_chain (chain_rows m) links.first) (seconds (known_step mask) sound_step (step_rows m) links.second)))
            (both_hold
            (both_hold choices.first (both_hold (seconds (λ row. ltb (word row 1) m.outside.tops) sound_case (case_rows m) items.first) items.second))
            (both_hold calls.first (both_hold (seconds known_function sound_function (function_rows m) fs.first) fs.second))));
        ten = ten;
      })
