-- Records with items: one of them behind the list of its items, and the loop over them that fills both tables.
use Prim.Native.Nat.{ℕ, ◌+◌, ◌*◌, ◌-◌, ◌≤◌, ◌<◌}
use mathlib.Core.Path.{◌≡◌, refl, sym, ◌∙◌, ap}
use mathlib.Core.List.{List, [], ◌∷◌, ◌++◌}
use native.Mathlib.Nat.{add-mul}
use native.Mathlib.Omega.{arith}
use lib.ListN.{length}
use lib.Seq.{sets}
use Rattle.std.proofs.Common.{Result, Ok, Err}
use Rattle.std.specs.Result.{IsErrAnd}
use Rattle.refusal.specs.declared.Refusal.{Refusal}
use Rattle.grammar.specs.declared.Cursor.{Cursor}
use Rattle.grammar.specs.Outcome.{Outcome, got, refused, Parser}
use Rattle.grammar.specs.Read.{answer}
use Rattle.grammar.proofs.Outcome.{got-ne-refused, got-value, got-next}
use Rattle.grammar.proofs.Read.{answer_refused}
use Rattle.tables.specs.Table.{rows, With, count_items, nested, packed, LeftOne, LeftBoth}
use Rattle.tables.proofs.Listing.{Stored, stored_more}
use Rattle.tables.proofs.Nesting.{length-rows, Nesting, nesting-none, nesting-full, nesting-refused, nesting-more, nesting-done}

-- ── one record ──

pub one_refused : {A B : Type 0} {o : Outcome (With A B)} {row : B → List ℕ} {width from : ℕ} {entry exit : List ℕ} {r : Result ((A × ℕ) × Cursor) Refusal} {e : Refusal} →
    IsErrAnd r (λ x. x ≡ e) → o ≡ refused e → LeftOne o row width from entry exit r
one_refused {r = r} {e} is all =
    record { result = rw all (sym (answer_refused (λ v. v) r e is)); table = λ w next same. absurd (got-ne-refused (sym same ∙ all)) }

-- what was got of one record
pub record GotOne {A B : Type 0} (o : Outcome (With A B)) (row : B → List ℕ) (width from : ℕ) (entry exit : List ℕ) (k : A × ℕ) (next : Cursor) : Type 0 where
  pub one : With A B
  pub is : o ≡ got one next
  pub whole : one.whole ≡ k.0
  pub counts : from + length one.items ≡ k.1
  pub table : exit ≡ sets entry (from * width) (rows row one.items)

module _ {A B : Type 0} {o : Outcome (With A B)} {row : B → List ℕ} {width from : ℕ} {entry exit : List ℕ} {r : Result ((A × ℕ) × Cursor) Refusal} (l : LeftOne o row width from entry exit r) where
  pub one_read : {k : A × ℕ} {next : Cursor} → r ≡ Ok (k, next) → GotOne o row width from entry exit k next
  one_read {k} {next} e = go o refl (l.result ∙ ap answer e)
    where
      go : (p : Outcome (With A B)) → o ≡ p → packed from p ≡ got k next → GotOne o row width from entry exit k next
      go (got w last) at is =
          let here : last ≡ next = got-next is in
          let same : ◌≡◌ {A = A × ℕ} (w.whole, from + length w.items) k = got-value is in
          record {
            one = w;
            is = at ∙ ap (λ (c : Cursor). got w c) here;
            whole = ap (λ (p : A × ℕ). p.0) same;
            counts = ap (λ (p : A × ℕ). p.1) same;
            table = l.table w last at;
          }
      go (refused r) at is = absurd (got-ne-refused (sym is))

  pub one_not : {e : Refusal} → r ≡ Err e → o ≡ refused e
  one_not {e} is = go o refl (l.result ∙ ap answer is)
    where
      go : (p : Outcome (With A B)) → o ≡ p → packed from p ≡ refused e → o ≡ refused e
      go (got w last) at is = absurd (got-ne-refused is)
      go (refused q) at is = at ∙ (let why : q ≡ e = cc in ap (λ (k : Refusal). refused k) why)

-- ── the loop over them ──

-- n records are wanted; so many are read, and stored in both tables
pub record Both {A B : Type 0} (table places : ℕ) (p : ℕ → Parser (With A B)) (row : A → List ℕ) (width : ℕ) (item_row : B → List ℕ) (item_width : ℕ) (s : List ℕ) (c : Cursor) (n : ℕ)
    (entry t item_entry items : List ℕ) (now : Cursor) (counter own used : ℕ) : Type 0 where
  pub left : ℕ
  pub wanted : counter + left ≡ n
  pub nesting : Nesting count_items table places p (λ w. row w.whole) width s c n 0 entry t now left own used
  pub stored : Stored (λ w. rows item_row w.items) item_entry 0 nesting.done items (used * item_width)
  pub same : length t ≡ length entry
  pub same_items : length items ≡ length item_entry

pub both_none : {A B : Type 0} (table places : ℕ) (p : ℕ → Parser (With A B)) (row : A → List ℕ) (width : ℕ) (item_row : B → List ℕ) (item_width : ℕ) (s : List ℕ) (c : Cursor) (n : ℕ)
    (entry item_entry : List ℕ) → Both table places p row width item_row item_width s c n entry entry item_entry item_entry c 0 0 0
unfolding nesting-none
both_none table places p row width item_row item_width s c n entry item_entry =
    record {
      left = n;
      wanted = omega arith;
      nesting = nesting-none count_items table places p (λ w. row w.whole) width s c n 0 entry;
      stored = record { is = refl; next = omega arith };
      same = refl;
      same_items = refl;
    }

pub both_refused : {A B : Type 0} {o : Outcome (List (With A B))} {row : A → List ℕ} {item_row : B → List ℕ} {entry exit item_entry item_exit : List ℕ} {r : Result ((ℕ × ℕ) × Cursor) Refusal} {e : Refusal} →
    IsErrAnd r (λ x. x ≡ e) → o ≡ refused e → LeftBoth o row item_row entry exit item_entry item_exit r
both_refused {r = r} {e} why all =
    record {
      result = rw all (sym (answer_refused _ r e why));
      table = λ xs next is. absurd (got-ne-refused (sym is ∙ all));
      items = λ xs next is. absurd (got-ne-refused (sym is ∙ all));
    }

module _ {A B : Type 0} {table places : ℕ} {p : ℕ → Parser (With A B)} {row : A → List ℕ} {width : ℕ} {item_row : B → List ℕ} {item_width : ℕ} {s : List ℕ} {c : Cursor} {n : ℕ}
    {entry t item_entry items : List ℕ} {now : Cursor} {counter own used : ℕ}
    (g : Both table places p row width item_row item_width s c n entry t item_entry items now counter own used) where
  pub both_full : counter < n → places ≤ own → nested count_items table places p n (record { own = 0; inner = 0 }) s c ≡ refused (Refusal.Full table)
  both_full h full = nesting-full g.nesting (omega (arith, g.wanted)) full

  pub both_stopped : counter < n → own < places → {exit : List ℕ} {r : Result ((A × ℕ) × Cursor) Refusal} {e : Refusal} →
      LeftOne (p used s now) item_row item_width used items exit r → r ≡ Err e →
      nested count_items table places p n (record { own = 0; inner = 0 }) s c ≡ refused e
  both_stopped h free l is = nesting-refused g.nesting (omega (arith, g.wanted)) free (one_not l is)

  pub both_more : counter < n → own < places → {k : A × ℕ} {later : Cursor} {exit : List ℕ} {r : Result ((A × ℕ) × Cursor) Refusal} →
      LeftOne (p used s now) item_row item_width used items exit r → r ≡ Ok (k, later) → length exit ≡ length items →
      ((x : A) → length (row x) ≡ width) → ((y : B) → length (item_row y) ≡ item_width) →
      Both table places p row width item_row item_width s c n entry (sets t (own * width) (row k.0)) item_entry exit later (counter + 1) (own + 1) k.1
  unfolding nesting-more
  both_more h free {k} {later} {exit} l e kept wide item_wide =
      let one = one_read l e in
      let more : Nesting count_items table places p (λ w. row w.whole) width s c n 0 entry (sets t (own * width) (row one.one.whole)) later (g.left - 1) (own + 1) (used + length one.one.items) =
      nesting-more g.nesting (omega (arith, g.wanted)) free one.is (wide one.one.whole) in
      let behind : Stored (λ w. rows item_row w.items) item_entry 0 (g.nesting.done ++ (one.one ∷ [])) (sets items (used * item_width) (rows item_row one.one.items)) (used * item_width + length (rows item_row one.one.items)) =
      stored_more g.stored one.one in
      let place : (used + length one.one.items) * item_width ≡ used * item_width + length (rows item_row one.one.items) =
      add-mul used (length one.one.items) item_width ∙ ap (λ (k : ℕ). used * item_width + k) (sym (length-rows item_row item_width item_wide one.one.items)) in
      let all : Both table places p row width item_row item_width s c n entry (sets t (own * width) (row one.one.whole)) item_entry exit later (counter + 1) (own + 1) (used + length one.one.items) =
      record {
        left = g.left - 1;
        wanted = omega (arith, g.wanted);
        nesting = more;
        stored = record { is = one.table ∙ behind.is; next = place ∙ behind.next };
        same = more.same;
        same_items = kept ∙ g.same_items;
      } in
      rw (one.whole, one.counts) at all

  pub both_done : n ≤ counter → LeftBoth (nested count_items table places p n (record { own = 0; inner = 0 }) s c) row item_row entry t item_entry items (Ok ((own, used), now))
  both_done e =
      let all = nesting-done g.nesting (omega (arith, g.wanted)) in
      record {
        result = rw (all, g.nesting.used);
        table = λ xs next is. let same : g.nesting.done ≡ xs = got-value (sym all ∙ is) in rw (← same) g.nesting.stored.is;
        items = λ xs next is. let same : g.nesting.done ≡ xs = got-value (sym all ∙ is) in rw (← same) g.stored.is;
      }
