-- The loop over the ends of the names, and the section behind it.
use Prim.Native.Nat.{ℕ, suc, ◌+◌, ◌-◌, ◌≤◌, ◌<◌}
use mathlib.Core.Path.{◌≡◌, refl, sym, ◌∙◌, ap}
use mathlib.Core.Bool.{Bool, true, false, ◌&&◌}
use mathlib.Core.List.{List, [], ◌∷◌, ◌++◌}
use native.Mathlib.Omega.{arith}
use lib.ListN.{length, set, length-append, length-set}
use lib.Seq.{sets}
use lib.Dec.{leb}
use Rattle.std.proofs.Common.{Result, Ok, Err, Option, Some, None}
use Rattle.std.specs.Prelude.{if◌then◌else◌}
use Rattle.std.specs.Result.{IsErrAnd}
use Rattle.refusal.specs.declared.Refusal.{Refusal}
use Rattle.grammar.specs.declared.Cursor.{Cursor}
use Rattle.grammar.specs.Outcome.{Outcome, got, refused, ◌>>◌}
use Rattle.grammar.specs.declared.Span.{Span}
use Rattle.grammar.specs.Combinators.{room, many, text_at}
use Rattle.grammar.specs.Number.{index}
use Rattle.grammar.specs.Read.{answer}
use Rattle.grammar.proofs.Outcome.{got-ne-refused, got-value, got-next}
use Rattle.grammar.proofs.Read.{answer_refused}
use Rattle.tables.specs.Table.{rows, records}
use Rattle.tables.proofs.Listing.{Listing, listing_none, listing-more, listing-refused, listing-left, listing-done, Stored, stored-none, stored_more}
use Rattle.tables.proofs.Filling.{placed-full, placed-free}
use Rattle.format.specs.Artifact.{Names}
use Rattle.format.specs.File.{rising, last_end}
use Rattle.format.specs.Rows.{end_row}
use Rattle.sections.specs.declared.names.NameList.{NameList}
use Rattle.sections.specs.Names.{last_of, joined, ends_behind, LeftEnds, LeftNames}

-- one end more
and-true : (b : Bool) → (b && true) ≡ b
and-true true = refl
and-true false = refl

and_assoc : (a b c : Bool) → (a && (b && c)) ≡ ((a && b) && c)
and_assoc true b c = refl
and_assoc false b c = refl

rising_snoc : (before : ℕ) (ends : List ℕ) (end : ℕ) → rising before (ends ++ (end ∷ [])) ≡ (rising before ends && leb (last_end before ends) end)
rising_snoc before [] end = and-true (leb before end)
rising_snoc before (e ∷ ends) end = ap (λ (b : Bool). leb before e && b) (rising_snoc e ends end) ∙ and_assoc (leb before e) (rising e ends) (leb (last_end e ends) end)

last_snoc : (before : ℕ) (ends : List ℕ) (end : ℕ) → last_end before (ends ++ (end ∷ [])) ≡ end
last_snoc before [] end = refl
last_snoc before (e ∷ ends) end = last_snoc e ends end

ends_snoc : (ends : List ℕ) (end : ℕ) → last_of (ends ++ (end ∷ [])) ≡ joined (last_of ends) end
ends_snoc ends end = rw (rising_snoc 0 ends end, last_snoc 0 ends end) (go (rising 0 ends))
  where
    go : (b : Bool) → (if (b && leb (last_end 0 ends) end) then Some end else None) ≡ joined (if b then Some (last_end 0 ends) else None) end
    go true = refl
    go false = refl

-- what the rule asks of them
pub fell : (ends : List ℕ) → last_of ends ≡ None → rising 0 ends ≡ false
fell ends e = go (rising 0 ends) e
  where
    go : (b : Bool) → ◌≡◌ {A = Option ℕ} (if b then Some (last_end 0 ends) else None) None → b ≡ false
    go true e = absurd (cc)
    go false e = refl

pub rose : (ends : List ℕ) {last : ℕ} → last_of ends ≡ Some last → (rising 0 ends ≡ true) × (last_end 0 ends ≡ last)
rose ends {last} e = go (rising 0 ends) e
  where
    go : (b : Bool) → ◌≡◌ {A = Option ℕ} (if b then Some (last_end 0 ends) else None) (Some last) → (b ≡ true) × (last_end 0 ends ≡ last)
    go true e = (refl, cc)
    go false e = absurd (cc)

-- n ends are wanted; so many are read and stored, and so much is known of them
pub record Ending (s : List ℕ) (c : Cursor) (n : ℕ) (entry t : List ℕ) (now : Cursor) (counter used : ℕ) (last : Option ℕ) : Type 0 where
  pub done : List ℕ
  pub left : ℕ
  pub wanted : counter + left ≡ n
  pub listing : Listing (λ used _. used + 1) (λ used. room 1 (length entry) used >> index) s c n 0 done now left used
  pub stored : Stored end_row entry 0 done t used
  pub counts : used ≡ length done
  pub same : length t ≡ length entry
  pub known : last ≡ last_of done

pub ending_none : (s : List ℕ) (c : Cursor) (n : ℕ) (entry : List ℕ) → Ending s c n entry entry c 0 0 (Some 0)
ending_none s c n entry =
    record {
      done = [];
      left = n;
      wanted = omega arith;
      listing = listing_none _ _ s c n 0;
      stored = stored-none end_row entry 0;
      counts = refl;
      same = refl;
      known = refl;
    }

pub ends_refused : {o : Outcome (List ℕ)} {entry exit : List ℕ} {r : Result ((ℕ × Option ℕ) × Cursor) Refusal} {e : Refusal} →
    IsErrAnd r (λ x. x ≡ e) → o ≡ refused e → LeftEnds o entry exit r
ends_refused {r = r} {e} why all =
    record { result = rw all (sym (answer_refused (λ v. v) r e why)); table = λ xs next is. absurd (got-ne-refused (sym is ∙ all)) }

module _ {s : List ℕ} {c : Cursor} {n : ℕ} {entry t : List ℕ} {now : Cursor} {counter used : ℕ} {last : Option ℕ} (g : Ending s c n entry t now counter used last) where
  one_left : counter < n → Listing (λ used _. used + 1) (λ used. room 1 (length entry) used >> index) s c n 0 g.done now (suc (g.left - 1)) used
  one_left h = listing-left g.listing (omega (arith, g.wanted))

  pub ending_full : counter < n → length t ≤ used → records 1 (length entry) index n 0 s c ≡ refused (Refusal.Full 1)
  unfolding records
  ending_full h full = listing-refused (one_left h) (placed-full 1 (length entry) index used s now (omega (arith, g.same)))

  pub ending_stopped : counter < n → used < length t → {r : Refusal} → index s now ≡ refused r → records 1 (length entry) index n 0 s c ≡ refused r
  unfolding records
  ending_stopped h free e = listing-refused (one_left h) (placed-free 1 (length entry) index used s now (omega (arith, g.same)) ∙ e)

  pub ending_more : counter < n → used < length t → {end : ℕ} {later : Cursor} → index s now ≡ got end later →
      Ending s c n entry (set t used end) later (counter + 1) (used + 1) (joined last end)
  ending_more h free {end} e =
      record {
        done = g.done ++ (end ∷ []);
        left = g.left - 1;
        wanted = omega (arith, g.wanted);
        listing = listing-more (one_left h) (placed-free 1 (length entry) index used s now (omega (arith, g.same)) ∙ e);
        stored = stored_more g.stored end;
        counts = rw (length-append g.done (end ∷ [])) (omega (arith, g.counts));
        same = length-set t used end ∙ g.same;
        known = rw g.known (sym (ends_snoc g.done end));
      }

  pub ending_done : n ≤ counter → LeftEnds (records 1 (length entry) index n 0 s c) entry t (Ok ((used, last), now))
  unfolding records
  ending_done h =
      record {
        result = rw (all, g.counts, g.known);
        table = λ xs next is. let same : g.done ≡ xs = cc (all, is) in rw (← same) g.stored.is;
      }
    where
      all : many (λ used _. used + 1) (λ used. room 1 (length entry) used >> index) n 0 s c ≡ got g.done now
      all = listing-done (listing-left g.listing (omega (arith, g.wanted)))

-- the ends that were read
pub record GotEnds (o : Outcome (List ℕ)) (entry exit : List ℕ) (used : ℕ) (last : Option ℕ) (next : Cursor) : Type 0 where
  pub all : List ℕ
  pub is : o ≡ got all next
  pub counts : length all ≡ used
  pub known : last_of all ≡ last
  pub table : exit ≡ sets entry 0 (rows end_row all)

module _ {o : Outcome (List ℕ)} {entry exit : List ℕ} {r : Result ((ℕ × Option ℕ) × Cursor) Refusal} (l : LeftEnds o entry exit r) where
  pub ends_got : {used : ℕ} {end : Option ℕ} {next : Cursor} → r ≡ Ok ((used, end), next) → GotEnds o entry exit used end next
  ends_got {used} {end} {next} e = go o refl (l.result ∙ ap answer e)
    where
      go : (p : Outcome (List ℕ)) → o ≡ p → ends_behind p ≡ got (used, end) next → GotEnds o entry exit used end next
      go (got xs last) at is =
          let here : last ≡ next = got-next is in
          let same : ◌≡◌ {A = ℕ × Option ℕ} (length xs, last_of xs) (used, end) = got-value is in
          record {
            all = xs;
            is = at ∙ ap (λ (c : Cursor). got xs c) here;
            counts = ap (λ (p : ℕ × Option ℕ). p.0) same;
            known = ap (λ (p : ℕ × Option ℕ). p.1) same;
            table = l.table xs last at;
          }
      go (refused q) at is = absurd (got-ne-refused (sym is))

  pub ends_not : {e : Refusal} → r ≡ Err e → o ≡ refused e
  ends_not {e} is = go o refl (l.result ∙ ap answer is)
    where
      go : (p : Outcome (List ℕ)) → o ≡ p → ends_behind p ≡ refused e → o ≡ refused e
      go (got xs last) at is = absurd (got-ne-refused is)
      go (refused q) at is = at ∙ (let why : q ≡ e = cc in ap (λ (k : Refusal). refused k) why)

pub names_refused : {o : Outcome Names} {s entry exit : List ℕ} {r : Result (NameList × Cursor) Refusal} {e : Refusal} →
    IsErrAnd r (λ x. x ≡ e) → o ≡ refused e → LeftNames o s entry exit r
names_refused {s = s} {r = r} {e} why all =
    record { result = rw all (sym (answer_refused _ r e why)); table = λ names next is. absurd (got-ne-refused (sym is ∙ all)) }

-- the names behind their ends
pub names_got : {o : Outcome (List ℕ)} {all : Outcome Names} {s entry exit : List ℕ} {used : ℕ} {end : Option ℕ} {next last : Cursor} {blob : Span}
    (g : GotEnds o entry exit used end next) → all ≡ got (record { ends = g.all; blob = text_at s blob }) last →
    LeftNames all s entry exit (Ok (record { used = used; blob = blob }, last))
names_got g is =
    record {
      result = rw (is, g.counts);
      table = λ names last e. rw (← ap (λ (n : Names). n.ends) (got-value (sym is ∙ e))) g.table;
    }
