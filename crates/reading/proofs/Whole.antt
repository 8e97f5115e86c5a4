-- From the sections, read one after the other, to the whole.
use Rattle.std.proofs.Common.{◌≡◌, ◌∙◌, ℕ, Result, Ok, Err, Bool, true, false, refl, sym, ap, ◌<◌, ◌≤◌, lt-ltb, le-ltb}
use Rattle.std.specs.Result.{IsErrAnd}
use Rattle.std.proofs.lemmas.Result.{err_from_is_err_and}
use mathlib.Core.List.{List, map}
use lib.ListN.{length, replicate}
use lib.Dec.{eqb}
use Rattle.refusal.specs.declared.Refusal.{Refusal}
use Rattle.grammar.specs.declared.Cursor.{Cursor}
use Rattle.grammar.specs.Outcome.{start, Outcome, got, refused, pure, ◌>>=◌}
use Rattle.grammar.specs.Combinators.{Text, ended, file}
use Rattle.tables.specs.Table.{With}
use Rattle.format.specs.declared.records.NameIndex.{NameIndex}
use Rattle.format.specs.declared.records.Chunk.{Chunk}
use Rattle.format.specs.declared.records.Chain.{Chain}
use Rattle.format.specs.declared.records.Step.{Step}
use Rattle.format.specs.declared.records.Site.{Site}
use Rattle.format.specs.declared.records.Input.{Input}
use Rattle.format.specs.declared.records.Function.{Function}
use Rattle.format.specs.Artifact as A
use Rattle.format.specs.File as definition
use Rattle.format.specs.Rows.{tables_of}
use Rattle.format.specs.declared.answer.Artifact.{Artifact}
use Rattle.format.specs.declared.answer.Used.{Used}
use Rattle.reading.specs.Answer.{places_of, outside, answer_of, tables_after, Answered}
use Rattle.reading.specs.Places.{words_of, front_all, stored_all}
use Rattle.reading.proofs.Behind.{words-used, all-filled, all-cleared}
use Rattle.reading.specs.Sections.{whole, Sections}

-- the end of the file is the same for any value
ended_at : {A B : Type 0} (s : List ℕ) (v : A) (w : B) (c : Cursor) {n : Cursor} → ended s v c ≡ got v n → ended s w c ≡ got w c
ended_at {A} s v w c {n} e = go (eqb c.at (length s)) refl
  where
    go : (b : Bool) → eqb c.at (length s) ≡ b → ended s w c ≡ got w c
    go true is = rw is
    go false is = let no : ◌≡◌ {A = Outcome A} (refused (Refusal.TrailingBytes _)) (got v n) = rw is at e in cc

ended-refused : {A B : Type 0} (s : List ℕ) (v : A) (w : B) (c : Cursor) {r : Refusal} → ended s v c ≡ refused r → ended s w c ≡ refused r
ended-refused {A} s v w c {r} e = go (eqb c.at (length s)) refl
  where
    go : (b : Bool) → eqb c.at (length s) ≡ b → ended s w c ≡ refused r
    go true is = let no : ◌≡◌ {A = Outcome A} (got v c) (refused r) = rw is at e in cc
    go false is = let same : ◌≡◌ {A = Outcome A} (refused (Refusal.TrailingBytes _)) (refused r) = rw is at e in cc

-- all sections, one after the other
pub all-got : (P : A.Places) (mask : ℕ) (s : List ℕ) {h : A.Header} {source : Text} {ns : A.Names} {cs : List (A.Constant Text A.levels)} {ts : List Text}
    {os : List (A.Assign Text)} {ls : List (With Chain Step)} {tops : ℕ} {ws : List A.Cased} {us : List (With Site Input)} {main : Chunk}
    {fs : List (With Function NameIndex)} {code ps : Text} {c1 c2 c3 c4 c5 c6 c7 c8 c9 c10 c11 c12 c13 : Cursor} →
    definition.header s start ≡ got h c1 → definition.string s c1 ≡ got source c2 → definition.names P.names s c2 ≡ got ns c3 →
    definition.constants P.constants s c3 ≡ got cs c4 → definition.tokens P.tokens s c4 ≡ got ts c5 → definition.assigns P.assigns s c5 ≡ got os c6 →
    definition.chains P.chains P.steps mask s c6 ≡ got ls c7 → length cs ≡ tops → definition.switches P.switches P.cases P.ranges tops s c7 ≡ got ws c8 →
    definition.customs P.customs P.inputs s c8 ≡ got us c9 → definition.chunk s c9 ≡ got main c10 →
    definition.functions P.functions P.parameters s c10 ≡ got fs c11 → definition.bytes s c11 ≡ got code c12 → definition.positions s c12 ≡ got ps c13 →
    definition.artifact P mask s start ≡ got (record {
      header = h;
      source = source;
      names = ns;
      constants = cs;
      tokens = ts;
      assigns = os;
      chains = ls;
      switches = ws;
      customs = us;
      main = main;
      functions = fs;
      code = code;
      positions = ps;
    }) c13
unfolding definition.artifact ◌>>=◌ pure
all-got P mask s g1 g2 g3 g4 g5 g6 g7 e g8 g9 g10 g11 g12 g13 = rw (g1, g2, g3, g4, g5, g6, g7, e, g8, g9, g10, g11, g12, g13)

module _ (mask : ℕ) (s : List ℕ) (entry : List (List ℕ)) {exit : List (List ℕ)} where
  refused-whole : {answer : Result Artifact Refusal} {r : Refusal} → IsErrAnd answer (λ x. x ≡ r) → whole mask s entry ≡ refused r → Sections (whole mask s entry) entry exit answer
  refused-whole {answer} {r} is e =
      let p = err_from_is_err_and answer is in
      record { result = rw (p.1, p.2, e) refl; tables = λ a last no. let z : ◌≡◌ {A = Outcome A.Artifact} (refused r) (got a last) = sym e ∙ no in cc }

  -- a section was refused
  pub section-refused : {answer : Result Artifact Refusal} {r : Refusal} → IsErrAnd answer (λ x. x ≡ r) → definition.artifact (places_of entry) mask s start ≡ refused r → Sections (whole mask s entry) entry exit answer
  unfolding file
  section-refused is e = refused-whole is (rw e)

  -- bytes are left over
  pub end-refused : {answer : Result Artifact Refusal} {r : Refusal} {a : A.Artifact} {c : Cursor} → IsErrAnd answer (λ x. x ≡ r) →
      definition.artifact (places_of entry) mask s start ≡ got a c → ended s (tt {0}) c ≡ refused r → Sections (whole mask s entry) entry exit answer
  unfolding file
  end-refused {a = a} {c} is e left = refused-whole is (rw e (ended-refused s (tt {0}) a c left))

  -- all were read
  pub all-read : {answer : Artifact} {a : A.Artifact} {c n : Cursor} → definition.artifact (places_of entry) mask s start ≡ got a c → ended s (tt {0}) c ≡ got (tt {0}) n → answer ≡ outside a →
      exit ≡ stored_all entry (tables_of a) → Sections (whole mask s entry) entry exit (Ok answer)
  unfolding file
  all-read {answer} {a} {c} e left same stored =
      let is : whole mask s entry ≡ got a c = rw e (ended_at s (tt {0}) a c left) in
      record {
        result = rw (is, same) refl;
        tables = λ b last other. let one : ◌≡◌ {A = Outcome A.Artifact} (got a c) (got b last) = sym is ∙ other in let which : a ≡ b = cc in rw (← which) stored;
      }

-- ── the limit in front of the sections, and what stands behind the rows, cleared ──

module _ (mask : ℕ) (s : List ℕ) (entry : List (List ℕ)) where
  abbrev read : Outcome A.Artifact
  read = definition.read (places_of entry) mask s

  pub over-limit : {between : List (List ℕ)} {answer : Result Artifact Refusal} → 1048576 < length s → answer ≡ Err (Refusal.TooLong (length s)) → Sections read entry between answer
  unfolding definition.read
  over-limit h is =
      record {
        result = rw (is, lt-ltb 1048576 (length s) h) refl;
        tables = λ a last e. let no : ◌≡◌ {A = Outcome A.Artifact} (refused (Refusal.TooLong (length s))) (got a last) = rw (lt-ltb 1048576 (length s) h) at e in cc;
      }

  pub within-limit : {between : List (List ℕ)} {answer : Result Artifact Refusal} → length s ≤ 1048576 → Sections (whole mask s entry) entry between answer → Sections read entry between answer
  unfolding definition.read
  within-limit h all = rw (le-ltb 1048576 (length s) h) all

  pub all-cleared-behind : {between exit : List (List ℕ)} {answer : Result Artifact Refusal} {used : Used} → Sections read entry between answer →
      ((a : Artifact) → answer ≡ Ok a → used ≡ a.used) → ((r : Refusal) → answer ≡ Err r → words_of used ≡ replicate (length between) 0) →
      map (λ (n : ℕ). replicate {A = ℕ} n 0) (map length between) ≡ map (λ (t : List ℕ). replicate {A = ℕ} (length t) 0) entry → exit ≡ front_all (words_of used) between →
      Answered mask s entry exit answer
  all-cleared-behind {between} {exit} {answer} {used} sections kept none zeros left = go read refl
    where
      go : (o : Outcome A.Artifact) → read ≡ o → Answered mask s entry exit answer
      go (got a last) e =
          let is : used ≡ (outside a).used = kept (outside a) (sections.result ∙ ap answer_of e) in
          let stored : between ≡ stored_all entry (tables_of a) = sections.tables a last e in
          record {
            result = sections.result;
            tables = left
                ∙ ap (λ (u : Used). front_all (words_of u) between) is
                ∙ ap (front_all (words_of (outside a).used)) stored
                ∙ ap (λ (words : List ℕ). front_all words (stored_all entry (tables_of a))) (words-used a)
                ∙ all-filled entry (tables_of a)
                ∙ ap (λ (o : Outcome A.Artifact). tables_after o entry) (sym e);
          }
      go (refused r) e =
          let is : words_of used ≡ replicate (length between) 0 = none r (sections.result ∙ ap answer_of e) in
          record {
            result = sections.result;
            tables = left
                ∙ ap (λ (words : List ℕ). front_all words between) is
                ∙ all-cleared between
                ∙ zeros
                ∙ ap (λ (o : Outcome A.Artifact). tables_after o entry) (sym e);
          }
