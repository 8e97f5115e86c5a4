-- What was read fits the tables: the definition refuses a record for which there is no place.
use Prim.Native.Nat.{ℕ, zero, suc, ◌+◌, ◌≤◌, ◌<◌}
use mathlib.Core.List.{List, foldl}
use native.Mathlib.Nat.{zero-add}
use native.Mathlib.Omega.{arith}
use lib.ListN.{length}
use Rattle.grammar.specs.Outcome.{Parser, pure, ◌>>=◌}
use Rattle.grammar.specs.Combinators.{Text, many}
use Rattle.tables.specs.Table.{records, nested, count_items}
use Rattle.tables.proofs.Fitting.{records-fit, nested-fit}
use Rattle.format.specs.Artifact as A
use Rattle.format.specs.File as definition
use Rattle.tables.proofs.Got.{behind-all}
use Rattle.leaves.proofs.Leaves.{Leaves, leaves-pure, leaves-refuse, leaves-then, leaves-bind, leaves-room, leaves-tag, leaves-unknown, leaves-many}

-- ── lists of one table ──

leaves-records : {s : List ℕ} {X : Type 0} (table places : ℕ) (p : Parser X) (n used : ℕ) → used ≤ places →
    Leaves s (records table places p n used) (λ xs. used + length xs ≤ places)
leaves-records {s} table places p n used h =
    record { always = λ c xs last e. records-fit table places p s n used c xs last h e }

leaves-list : {s : List ℕ} {X : Type 0} (table places : ℕ) (p : Parser X) (used : ℕ) → used ≤ places →
    Leaves s (definition.list table places p used) (λ xs. used + length xs ≤ places)
unfolding definition.list
leaves-list table places p used h = leaves-bind _ _ (λ n. leaves-records _ _ _ n _ h)

leaves-top : {s : List ℕ} {X : Type 0} (table places : ℕ) (p : Parser X) → Leaves s (definition.list table places p 0) (λ xs. length xs ≤ places)
leaves-top table places p = record { always = λ c xs last e. rw (zero-add (length xs)) at ((leaves-list table places p 0 (omega arith)).always c xs last e) }

pub leaves-names : {s : List ℕ} (places : ℕ) → Leaves s (definition.names places) (λ ns. length ns.ends ≤ places)
unfolding definition.names
leaves-names places =
    leaves-bind _ _ (λ n. leaves-bind _ _ (λ _. leaves-then _ (leaves-records _ _ _ n 0 (omega arith)) (λ ends ok.
    leaves-bind _ _ (λ all. leaves-bind _ _ (λ _. leaves-bind _ _ (λ _. leaves-bind _ _ (λ _. leaves-pure _ (rw (zero-add (length ends)) at ok))))))))

pub leaves-tokens : {s : List ℕ} (places : ℕ) → Leaves s (definition.tokens places) (λ xs. length xs ≤ places)
unfolding definition.tokens
leaves-tokens places = leaves-top _ _ _

pub leaves-assigns : {s : List ℕ} (places : ℕ) → Leaves s (definition.assigns places) (λ xs. length xs ≤ places)
unfolding definition.assigns
leaves-assigns places = leaves-top _ _ _

-- ── constants ──

one_more_lem : {used places : ℕ} → used < places → used + 1 ≤ places
one_more_lem h = omega arith

-- items and map entries, each one level deeper
module _ {s : List ℕ} (places levels : ℕ) (deeper : (used : ℕ) → Leaves s (definition.constant places levels used) (λ v. A.behind Text levels used v ≤ places)) (used : ℕ) (free : used < places) where
  leaves-items : (n : ℕ) → Leaves s (many (A.behind Text levels) (definition.constant places levels) n (used + 1))
      (λ xs. foldl (A.behind Text levels) (used + 1) xs ≤ places)
  leaves-items n = leaves-many _ (λ used. used ≤ places) (λ used _. deeper used) n (used + 1) (one_more_lem free)

  abbrev Entry : Type 0
  Entry = Text × A.Constant Text levels

  leaves-entries : (n : ℕ) → Leaves s (many (λ used (entry : Entry). A.behind Text levels used entry.1) (λ used. do
    key ← definition.string
    value ← definition.constant places levels used
    pure (key, value)) n (used + 1)) (λ xs. foldl (λ used (entry : Entry). A.behind Text levels used entry.1) (used + 1) xs ≤ places)
  leaves-entries n =
      leaves-many _ (λ used. used ≤ places) (λ used _. leaves-bind _ _ (λ key. leaves-then _ (deeper used) (λ v ok. leaves-pure _ ok))) n (used + 1) (one_more_lem free)

leaves-constant : {s : List ℕ} (places levels used : ℕ) → Leaves s (definition.constant places levels used) (λ v. A.behind Text levels used v ≤ places)
unfolding definition.constant
leaves-constant places zero used = leaves-refuse _
leaves-constant {s} places (suc levels) used =
    let deeper = leaves-constant {s = s} places levels in
    leaves-room _ _ _ (λ free.
    let plain = one_more_lem free in
    leaves-bind _ _ (λ tag.
    leaves-tag _ _ _ (leaves-pure _ plain)
    (leaves-tag _ _ _ (leaves-pure _ plain)
    (leaves-tag _ _ _ (leaves-pure _ plain)
    (leaves-tag _ _ _ (leaves-bind _ _ (λ n. leaves-pure _ plain))
    (leaves-tag _ _ _ (leaves-bind _ _ (λ bits. leaves-pure _ plain))
    (leaves-tag _ _ _ (leaves-bind _ _ (λ code. leaves-bind _ _ (λ _. leaves-pure _ plain)))
    (leaves-tag _ _ _ (leaves-bind _ _ (λ t. leaves-pure _ plain))
    (leaves-tag _ _ _ (leaves-bind _ _ (λ n. leaves-then _ (leaves-items places levels deeper used free n) (λ xs ok. leaves-pure _ ok)))
    (leaves-tag _ _ _ (leaves-bind _ _ (λ n. leaves-then _ (leaves-entries places levels deeper used free n) (λ xs ok. leaves-pure _ ok)))
    (leaves-tag _ _ _ (leaves-bind _ _ (λ t. leaves-pure _ plain))
    (leaves-tag _ _ _ (leaves-bind _ _ (λ from. leaves-bind _ _ (λ to. leaves-pure _ plain)))
    (leaves-tag _ _ _ (leaves-bind _ _ (λ from. leaves-bind _ _ (λ to. leaves-pure _ plain)))
    (leaves-tag _ _ _ (leaves-bind _ _ (λ name. leaves-bind _ _ (λ n. leaves-then _ (leaves-items places levels deeper used free n) (λ xs ok. leaves-bind _ _ (λ k. leaves-pure _ ok)))))
    (leaves-unknown _ _)))))))))))))))

pub leaves-constants : {s : List ℕ} (places : ℕ) → Leaves s (definition.constants places) (λ cs. foldl (A.behind Text A.levels) 0 cs ≤ places)
unfolding definition.constants
leaves-constants places =
    leaves-bind _ _ (λ n. leaves-many _ (λ used. used ≤ places) (λ used _. leaves-constant places A.levels used) n 0 (omega arith))

-- ── records with items ──

leaves-nested : {s : List ℕ} {X S : Type 0} (next : S → X → S) (table places : ℕ) (p : S → Parser X) (Ok : S → Type 0) (from : S) (n : ℕ) → Ok from →
    ((inner : S) → Ok inner → Leaves s (p inner) (λ x. Ok (next inner x))) →
    Leaves s (nested next table places p n (record { own = 0; inner = from })) (λ xs. (length xs ≤ places) × Ok (foldl next from xs))
leaves-nested {s} next table places p Ok from n ok one =
    record {
      always = λ c xs last e.
          rw (behind-all next 0 from xs, zero-add (length xs)) at
          (nested-fit next table places p Ok s (λ inner c x later ok e. (one inner ok).always c x later e) n (record { own = 0; inner = from }) c xs last (omega arith) ok e);
    }

pub leaves-chains : {s : List ℕ} (places step_places mask : ℕ) →
    Leaves s (definition.chains places step_places mask) (λ xs. (length xs ≤ places) × (foldl count_items 0 xs ≤ step_places))
unfolding definition.chains definition.chain
leaves-chains places step_places mask =
    leaves-bind _ _ (λ n. leaves-nested count_items 5 places _ (λ used. used ≤ step_places) 0 n (omega arith) (λ used ok.
    leaves-bind _ _ (λ r. leaves-bind _ _ (λ operands. leaves-then _ (leaves-list _ _ _ used ok) (λ steps fit.
    leaves-bind _ _ (λ t. leaves-pure _ fit))))))

pub leaves-customs : {s : List ℕ} (places input_places : ℕ) →
    Leaves s (definition.customs places input_places) (λ xs. (length xs ≤ places) × (foldl count_items 0 xs ≤ input_places))
unfolding definition.customs definition.site
leaves-customs places input_places =
    leaves-bind _ _ (λ n. leaves-nested count_items 10 places _ (λ used. used ≤ input_places) 0 n (omega arith) (λ used ok.
    leaves-bind _ _ (λ key. leaves-bind _ _ (λ state. leaves-then _ (leaves-list _ _ _ used ok) (λ inputs fit. leaves-pure _ fit)))))

pub leaves-functions : {s : List ℕ} (places parameter_places : ℕ) →
    Leaves s (definition.functions places parameter_places) (λ xs. (length xs ≤ places) × (foldl count_items 0 xs ≤ parameter_places))
unfolding definition.functions definition.function
leaves-functions places parameter_places =
    leaves-bind _ _ (λ n. leaves-nested count_items 12 places _ (λ used. used ≤ parameter_places) 0 n (omega arith) (λ used ok.
    leaves-bind _ _ (λ name. leaves-bind _ _ (λ a. leaves-bind _ _ (λ this. leaves-then _ (leaves-list _ _ _ used ok) (λ parameters fit.
    leaves-bind _ _ (λ c. leaves-pure _ fit)))))))

abbrev CasesFit : ℕ → ℕ → A.UsedCases → Type 0
CasesFit case_places range_places used = (used.cases ≤ case_places) × (used.ranges ≤ range_places)

pub leaves-switches : {s : List ℕ} (places case_places range_places tops : ℕ) →
    Leaves s (definition.switches places case_places range_places tops) (λ xs. (length xs ≤ places) × CasesFit case_places range_places (foldl A.count_cases (record { cases = 0; ranges = 0 }) xs))
unfolding definition.switches definition.switch
leaves-switches places case_places range_places tops =
    leaves-bind _ _ (λ n. leaves-nested A.count_cases 7 places _ (CasesFit case_places range_places) (record { cases = 0; ranges = 0 }) n (omega arith, omega arith) (λ used ok.
    leaves-then _ (leaves-list _ _ _ used.cases ok.0) (λ cases fit. leaves-then _ (leaves-list _ _ _ used.ranges ok.1) (λ ranges also.
    leaves-bind _ _ (λ default. leaves-pure _ (fit, also))))))
