-- One entry more: how the definitions' lists of entries go on behind an entry, for a check and for resolving.
use Rattle.std.proofs.Common.{◌≡◌, Result, Ok, Err, Some, None, ℕ, suc, ◌+◌, ◌-◌, ◌^◌, ◌<◌, ◌≤◌, Bool, true, false, eqb, ltb, leb, List, ◌∷◌, length, get_or, sym, refl, ap, ◌∙◌, zero-le, zero-add, arith, le-ltb, lt-ltb, le-leb, eq-eqb, if◌then◌else◌}
use lib.Bits.{bit_or}
use Rattle.std.specs.Result.{result_ok}
use Rattle.grammar.specs.Read.{answer}
use Rattle.refusal.specs.declared.Refusal.{Refusal}
use Rattle.refusal.specs.declared.PositionsFault.{PositionsFault}
use Rattle.grammar.specs.declared.Cursor.{Cursor}
use Rattle.grammar.specs.Outcome.{start, advanced, Outcome, got, refused, after, pure, refuse, ◌>>=◌}
use Rattle.grammar.specs.Combinators.{check}
use Rattle.grammar.specs.Number.{number}
use Rattle.grammar.proofs.Number.{number-below}
use Rattle.grammar.proofs.Outcome.{got-ne-refused}
use Rattle.position_table.specs.declared.Site.{Site}
use Rattle.position_table.specs.Table.{in_table, field, Previous, none, earlier, reached, entries, table, whole, as_checked, checked, walked, site_for, seek, or_none, resolved}
use Rattle.pos.specs.Steps.{placed, entry_at, ended_at, ends_as}
use Rattle.pos.specs.declared.skim.Walk.{Walk}
use Rattle.pos.proofs.Shorts.{field-one, plain-three, low-one}
use Rattle.pos.specs.Skim.{Whole, Entry, Before, first, later, walk_at, begins, CheckingAt, Checking, sought, Runs}

-- what a read says, told as an option
pub read_some : {A : Type 0} (r : Result (A × Cursor) Refusal) {v : A} {next : Cursor} → Some (v, next) ≡ result_ok r → answer r ≡ got v next
read_some (Ok read) is = cc
read_some (Err r) is = cc

pub read_none : {A : Type 0} (r : Result (A × Cursor) Refusal) → None ≡ result_ok r → (e : Refusal) × (answer r ≡ refused e)
read_none (Ok read) is = cc
read_none (Err r) is = (r, refl)

-- a field fits 32 bits
pub field_below : (s : List ℕ) (c : Cursor) (v : ℕ) (next : Cursor) → field s c ≡ got v next → v < 2 ^ 32
unfolding field
field_below s c v next e = go (number 32 s c) refl e
  where
    go : (o : Outcome ℕ) → number 32 s c ≡ o → in_table o ≡ got v next → v < 2 ^ 32
    go (got u last) is e = number-below 32 s c v next (is ∙ e)
    go (refused r) is e = absurd (got-ne-refused (sym e))

abbrev site-of : ℕ → ℕ → ℕ → Site
site-of to line column = record { address = to; line = line; column = column }

-- the line and the column alone, and with the entries behind them
abbrev placing : List ℕ → ℕ → Cursor → Outcome Site
placing s to c = after (field s c) (λ line c₃. after (field s c₃) (λ column next. got (site-of to line column) next))

abbrev listing : List ℕ → ℕ → ℕ → Cursor → Outcome (List Site)
listing s n to c =
    after (field s c) (λ line c₃. after (field s c₃) (λ column next. after (entries n (earlier to) s next) (λ others last. got (site-of to line column ∷ others) last)))

-- what a check goes on with behind an entry
abbrev onward : List ℕ → ℕ → Outcome Site → Result Unit Refusal
onward s n (got site next) = ends_as s (entries n (earlier site.address) s next)
onward s n (refused r) = Err r

entries-more : {p : Previous} {least address : ℕ} → Before p least address → (n : ℕ) (s : List ℕ) (c : Cursor) →
    ends_as s (entries (suc n) p s c) ≡ onward s n (entry_at least address s c)
unfolding entries reached entry_at placed check ◌>>=◌ pure refuse
entries-more {p} {least} {address} before n s c = step-got (field s c) refl
  where
    others-got : (site : Site) (o : Outcome (List Site)) → ends_as s (after o (λ others last. got (site ∷ others) last)) ≡ ends_as s o
    others-got site (got others last) = refl
    others-got site (refused r) = refl

    column-got : (to line : ℕ) (o : Outcome ℕ) →
        ends_as s (after o (λ column next. after (entries n (earlier to) s next) (λ others last. got (site-of to line column ∷ others) last))) ≡
        onward s n (after o (λ column next. got (site-of to line column) next))
    column-got to line (got column next) = others-got _ (entries n (earlier to) s next)
    column-got to line (refused r) = refl

    line-got : (to : ℕ) (o : Outcome ℕ) →
        ends_as s (after o (λ line c₃. after (field s c₃) (λ column next. after (entries n (earlier to) s next) (λ others last. got (site-of to line column ∷ others) last)))) ≡
        onward s n (after o (λ line c₃. after (field s c₃) (λ column next. got (site-of to line column) next)))
    line-got to (got line c₃) = column-got to line (field s c₃)
    line-got to (refused r) = refl

    -- a step is none too small and the sum fits, or not
    reached-got : {p : Previous} {least address : ℕ} → Before p least address → (step : ℕ) → step < 2 ^ 32 → (c₁ : Cursor) →
        ends_as s (after (reached p step s c₁) (λ to c₂. listing s n to c₂)) ≡
        onward s n (after (check (leb least step) (Refusal.Positions (PositionsFault.OutOfOrder address)) s c₁)
        (λ _ c₂. after (check (ltb (address + step) (2 ^ 32)) (Refusal.Positions PositionsFault.Overflow) s c₂) (λ _ c₃. placing s (address + step) c₃)))
    reached-got first step h c₁ = rw (le-leb 0 step zero-le, zero-add step, lt-ltb step (2 ^ 32) h) (line-got step (field s c₁))
    reached-got (later address) step h c₁ = go (ltb 0 step) (ltb (address + step) (2 ^ 32))
      where
        go : (b t : Bool) →
            ends_as s (after (after (check b (Refusal.Positions (PositionsFault.OutOfOrder address)) s c₁)
            (λ _ next. after (check t (Refusal.Positions PositionsFault.Overflow) s next) (λ _ last. got (address + step) last))) (λ to c₂. listing s n to c₂)) ≡
            onward s n (after (check b (Refusal.Positions (PositionsFault.OutOfOrder address)) s c₁)
            (λ _ c₂. after (check t (Refusal.Positions PositionsFault.Overflow) s c₂) (λ _ c₃. placing s (address + step) c₃)))
        go true true = line-got (address + step) (field s c₁)
        go true false = refl
        go false t = refl

    step-got : (o : Outcome ℕ) → field s c ≡ o →
        ends_as s (after o (λ step c₁. after (reached p step s c₁) (λ to c₂. listing s n to c₂))) ≡
        onward s n (after o (λ step c₁. after (check (leb least step) (Refusal.Positions (PositionsFault.OutOfOrder address)) s c₁)
        (λ _ c₂. after (check (ltb (address + step) (2 ^ 32)) (Refusal.Positions PositionsFault.Overflow) s c₂) (λ _ c₃. placing s (address + step) c₃))))
    step-got (got step c₁) e = reached-got before step (field_below s c step c₁ e) c₁
    step-got (refused r) e = refl

-- an entry as resolving reads it passes any step
pub walked-is : (address : ℕ) (s : List ℕ) (c : Cursor) → walked address s c ≡ entry_at 0 address s c
unfolding walked entry_at placed check pure refuse ◌>>=◌
walked-is address s c = go (field s c)
  where
    go : (o : Outcome ℕ) →
        after o (λ step c₁. after (check (ltb (address + step) (2 ^ 32)) (Refusal.Positions PositionsFault.Overflow) s c₁) (λ _ c₂. placing s (address + step) c₂)) ≡
        after o (λ step c₁. after (check (leb 0 step) (Refusal.Positions (PositionsFault.OutOfOrder address)) s c₁)
        (λ _ c₂. after (check (ltb (address + step) (2 ^ 32)) (Refusal.Positions PositionsFault.Overflow) s c₂) (λ _ c₃. placing s (address + step) c₃)))
    go (got step c₁) = rw (le-leb 0 step zero-le) refl
    go (refused r) = refl

-- a whole entry, read at any least step up to its own
pub entry_whole : {s : List ℕ} {c : Cursor} {step line column size : ℕ} → Whole s c step line column size → (l address : ℕ) → l ≤ step → address + step < 2 ^ 32 →
    entry_at l address s c ≡ got (record { address = address + step; line = line; column = column }) (advanced c size)
unfolding entry_at check pure ◌>>=◌
entry_whole {step = step} w l address h reach = rw (w.first, le-leb l step h, lt-ltb (address + step) (2 ^ 32) reach, w.rest (address + step))

-- ── a check ──

-- the whole check from the count on
checked-is : (s : List ℕ) → checked s ≡ ends_as s (table s start)
unfolding checked whole
checked-is s = go (table s start)
  where
    end : (b : Bool) (sites : List Site) (next : Cursor) →
        as_checked (if b then got sites next else refused (Refusal.Positions (PositionsFault.Trailing (length s - next.at)))) ≡
        (if b then Ok tt else Err (Refusal.Positions (PositionsFault.Trailing (length s - next.at))))
    end true sites next = refl
    end false sites next = refl

    go : (o : Outcome (List Site)) →
        as_checked (after o (λ sites next. if eqb next.at (length s) then got sites next else refused (Refusal.Positions (PositionsFault.Trailing (length s - next.at))))) ≡ ends_as s o
    go (got sites next) = end (eqb next.at (length s)) sites next
    go (refused r) = refl

pub checking-begins : (s : List ℕ) (count : ℕ) (next : Cursor) → field s start ≡ got count next → CheckingAt s next count 0 0
unfolding table ◌>>=◌
checking-begins s count next e = record { previous = none; before = first; rest = checked-is s ∙ rw e }

pub checked_refused : (s : List ℕ) (r : Refusal) → field s start ≡ refused r → Err r ≡ checked s
unfolding table ◌>>=◌
checked_refused s r e = sym (checked-is s ∙ rw e)

module _ {s : List ℕ} {c : Cursor} {left least address : ℕ} (g : CheckingAt s c left least address) where
  checking-entry : 0 < left → checked s ≡ onward s (left - 1) (entry_at least address s c)
  checking-entry h =
      let n : left ≡ suc (left - 1) = omega arith in
      g.rest ∙ ap (λ (k : ℕ). ends_as s (entries k g.previous s c)) n ∙ entries-more g.before (left - 1) s c

  pub checking-more : 0 < left → {site : Site} {next : Cursor} → entry_at least address s c ≡ got site next →
      CheckingAt s next (left - 1) 1 site.address
  checking-more h {site} e = record { previous = earlier site.address; before = later site.address; rest = checking-entry h ∙ rw e }

  pub checking-refused : 0 < left → {r : Refusal} → entry_at least address s c ≡ refused r → Err r ≡ checked s
  checking-refused h e = sym (checking-entry h ∙ rw e)

  pub checking-ended : left ≤ 0 → ended_at (length s) c.at ≡ checked s
  unfolding entries pure
  checking-ended h =
      let n : left ≡ 0 = omega arith in
      sym (g.rest ∙ ap (λ (k : ℕ). ends_as s (entries k g.previous s c)) n)

-- ── resolving ──

pub resolving-begins : (s : List ℕ) (asked count : ℕ) (next : Cursor) → field s start ≡ got count next → resolved s asked ≡ sought s asked next count 0
unfolding resolved ◌>>=◌
resolving-begins s asked count next e = rw e

pub resolved-refused : (s : List ℕ) (asked : ℕ) (r : Refusal) → field s start ≡ refused r → resolved s asked ≡ None
unfolding resolved ◌>>=◌
resolved-refused s asked r e = rw e

module _ (s : List ℕ) (asked : ℕ) (c : Cursor) (left address : ℕ) where
  pub seek-ended : left ≤ 0 → sought s asked c left address ≡ None
  unfolding seek pure
  seek-ended h = let n : left ≡ 0 = omega arith in rw n

  module _ (h : 0 < left) where
    left_is : left ≡ suc (left - 1)
    left_is = omega arith

    pub seek-refused : (r : Refusal) → entry_at 0 address s c ≡ refused r → sought s asked c left address ≡ None
    unfolding seek ◌>>=◌
    seek-refused r e = rw (left_is, walked-is address s c, e)

    module _ (site : Site) (next : Cursor) (e : entry_at 0 address s c ≡ got site next) where
      pub seek_found : asked ≤ site.address → sought s asked c left address ≡ site_for asked site
      unfolding seek pure ◌>>=◌
      seek_found at = rw (left_is, walked-is address s c, e, le-ltb site.address asked at)

      pub seek-more : site.address < asked → sought s asked c left address ≡ sought s asked next (left - 1) site.address
      unfolding seek pure ◌>>=◌
      seek-more at =
          ap (λ (k : ℕ). or_none (seek k asked address s c)) left_is ∙ rw (walked-is address s c, e, lt-ltb site.address asked at)

-- a walk that has just begun is at address 0
pub seek-begins : (s : List ℕ) (asked : ℕ) {w : Walk} {c : Cursor} {count : ℕ} → w ≡ begins c count asked →
    sought s asked w.c w.left (asked - w.room) ≡ sought s asked c count 0
seek-begins s asked is = let none_passed : asked - asked ≡ 0 = omega arith in rw (is, none_passed)

-- a step fits 32 bits
pub step_fits_lem : {s : List ℕ} {c : Cursor} {step line column size : ℕ} → Whole s c step line column size → step < 2 ^ 32
step_fits_lem {s} {c} w = field_below s c _ _ w.first

-- the short entry at hand stops the walk, or is passed
module _ {s : List ℕ} (asked : ℕ) {c : Cursor} {left : ℕ} (address : ℕ) {step line column size : ℕ} (w : Whole s c step line column size) (h : 0 < left)
    (fits : address + step < 2 ^ 32) where
  at-hand : entry_at 0 address s c ≡ got (record { address = address + step; line = line; column = column }) (advanced c size)
  at-hand = entry_whole w 0 address zero-le fits

  pub seek_hit : {to : ℕ} → address + step ≡ to → asked ≤ to → sought s asked c left address ≡ site_for asked (record { address = to; line = line; column = column })
  seek_hit is at =
      seek_found s asked c left address h _ _ at-hand (omega arith) ∙
      ap (λ (to : ℕ). site_for asked (record { address = to; line = line; column = column })) is

  pub seek-missed : left ≡ 1 → address + step < asked → sought s asked c left address ≡ None
  seek-missed one at = seek-more s asked c left address h _ _ at-hand at ∙ seek-ended s asked _ _ _ (omega arith)

-- ── running: both at once ──

pub runs-begins : (s : List ℕ) (from count over within : ℕ) → Runs s from count over within (walk_at from count over within)
runs-begins s from count over within =
    record {
      fewer = omega arith;
      lower = omega arith;
      room = λ h. h;
      sound = λ address _ g. rw (same address) g;
      finds = λ asked address _ _. ap (sought s asked (record { at = from }) count) (sym (same address));
    }
  where
    same : (address : ℕ) → address + (within - within) ≡ address
    same address = omega arith

-- an entry more, whose step is at least the least and below the room
runs-more : {s : List ℕ} {from count over within at left least room step size : ℕ} →
    Runs s from count over within (walk_at at left least room) → 0 < left → Entry s (record { at = at }) step size → least ≤ step → step < room →
    Runs s from count over within (walk_at (at + size) (left - 1) 1 (room - step))
runs-more {s} {from} {count} {over} {within} {at} {left} {least} {room} {step} {size} g h entry enough below =
    record {
      fewer = omega (arith, g.fewer);
      lower = omega (arith, g.lower);
      room = λ _. omega arith;
      sound = λ address fits k.
          rw (same address) at (checking-more (g.sound address fits k) h (entry_whole entry.whole least (address + (within - room)) enough (omega (arith, g.lower))));
      finds = λ asked address is fits.
          g.finds asked address is fits ∙
          seek-more s asked (record { at = at }) left (address + (within - room)) h _ _ (entry_whole entry.whole 0 (address + (within - room)) zero-le (omega (arith, g.lower))) (omega (arith, g.lower)) ∙
          ap (sought s asked (record { at = at + size }) (left - 1)) (same address);
    }
  where
    same : (address : ℕ) → address + (within - room) + step ≡ address + (within - (room - step))
    same address = omega (arith, g.lower)

-- what the loop knows: it stands inside
pub record Running (s : List ℕ) (from count over within at left least room : ℕ) : Type 0 where
  pub runs : Runs s from count over within (walk_at at left least room)
  pub inside : at ≤ length s

-- an entry, and the place behind it
pub record Moves (s : List ℕ) (at step to : ℕ) : Type 0 where
  pub size : ℕ
  pub entry : Entry s (record { at = at }) step size
  pub is : to ≡ at + size
  pub inside : to ≤ length s

pub running_more : {s : List ℕ} {from count over within at left least room step to : ℕ} →
    Running s from count over within at left least room → 0 < left → Moves s at step to → least ≤ step → step < room →
    Running s from count over within to (left - 1) 1 (room - step)
running_more g h m enough below = record { runs = rw m.is (runs-more g.runs h m.entry enough below); inside = m.inside }

-- a check goes on where a walk below 2 ^ 32 has run
pub checking-runs : {s : List ℕ} {from left least address : ℕ} {w : Walk} → CheckingAt s (record { at = from }) left least address → address < 2 ^ 32 →
    Runs s from left least (2 ^ 32 - address) w → Checking s w
checking-runs {address = address} {w} g fits r =
    let same : address + (2 ^ 32 - address - w.room) ≡ 2 ^ 32 - w.room = omega (arith, r.lower) in
    record { room = r.room (omega arith); within = omega (arith, r.lower); at = rw same at (r.sound address (omega arith) g) }

-- from a count of a single byte on
pub single-runs : {s : List ℕ} {n : ℕ} {w : Walk} → field s start ≡ got n (advanced start 1) → Runs s 1 n 0 (2 ^ 32) w → Checking s w
single-runs {s} {n} e r = checking-runs (checking-begins s n _ e) (omega arith) r

-- no entry is left, and no byte
pub checking-sound : {s : List ℕ} {w : Walk} → Checking s w → w.left ≡ 0 → w.c.at ≡ length s → Ok tt ≡ checked s
checking-sound {s} {w} g none_left all_read =
    let ends : Ok tt ≡ ended_at (length s) w.c.at = rw (eq-eqb w.c.at (length s) all_read) in
    ends ∙ checking-ended g.at (omega arith)

-- one entry behind a count of one, and no byte more
pub alone-sound : (s : List ℕ) → length s ≡ 4 → get_or s 0 0 ≡ 1 → bit_or (bit_or (get_or s 1 0) (get_or s 2 0)) (get_or s 3 0) < 128 → Ok tt ≡ checked s
alone-sound s size one low =
    let n : field s start ≡ got 1 (advanced start 1) = rw one at (field-one s start (omega arith) (omega arith)) in
    let entry : Moves s 1 (get_or s 1 0) 4 = record { size = 3; entry = plain-three s (record { at = 1 }) (omega arith) low; is = refl; inside = omega arith } in
    let g : Running s 1 1 0 (2 ^ 32) 1 1 0 (2 ^ 32) = record { runs = runs-begins s 1 1 0 (2 ^ 32); inside = omega arith } in
    let step-below : get_or s 1 0 < 128 = low-one (get_or s 1 0) (get_or s 2 0) (get_or s 3 0) low in
    let passed : Running s 1 1 0 (2 ^ 32) 4 0 1 (2 ^ 32 - get_or s 1 0) = running_more g (omega arith) entry (omega arith) (omega arith) in
    checking-sound (single-runs n passed.runs) refl (omega arith)

-- resolving goes on where a walk below the address asked has run
pub record Seeking (s : List ℕ) (asked : ℕ) (from w : Walk) : Type 0 where
  pub within : w.room ≤ asked
  pub finds : sought s asked from.c from.left (asked - from.room) ≡ sought s asked w.c w.left (asked - w.room)

pub seeking-runs : {s : List ℕ} {asked : ℕ} {from : Walk} {at left least address : ℕ} {w : Walk} →
    sought s asked from.c from.left (asked - from.room) ≡ sought s asked (record { at = at }) left address → address ≤ asked → asked < 2 ^ 32 →
    Runs s at left least (asked - address) w → Seeking s asked from w
seeking-runs {s} {asked} {address = address} {w} is below fits r =
    let same : address + (asked - address - w.room) ≡ asked - w.room = omega (arith, r.lower) in
    record {
      within = omega (arith, r.lower);
      finds = is ∙ r.finds asked address (omega arith) (omega arith) ∙ ap (sought s asked w.c w.left) same;
    }
