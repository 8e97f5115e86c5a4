-- The demands on the writer, as theorems about what `writing::write` and `reading::read` answer and leave.
use Prim.Native.Nat.{ℕ, zero, suc, ◌≤◌}
use mathlib.Core.Bool.{Bool, true, false}
use mathlib.Core.Path.{◌≡◌, refl, sym, ◌∙◌, ap}
use mathlib.Core.List.{List, [], ◌∷◌, ◌++◌}
use native.Mathlib.Omega.{arith}
use native.Mathlib.Nat.{le_trans}
use borrow.Author.Tests.{le-leb}
use lib.ListN.{length, take}
use Rattle.grammar.specs.declared.Cursor.{Cursor}
use Rattle.grammar.specs.Outcome.{Outcome, got}
use Rattle.format.specs.Artifact as A
use Rattle.format.specs.Rows.{tables_of}
use Rattle.format.specs.declared.answer.Artifact.{Artifact}
use Rattle.rows.specs.Given.{Bytes}
use Rattle.reading.specs.Answer.{places_of, outside, answer_of, Answered}
use Rattle.refusal.specs.declared.Refusal.{Refusal}
use Rattle.std.specs.Prelude.{Result, Ok, Err}
use Rattle.written.specs.Meaning.{Meaning, mean}
use Rattle.written.specs.Put.{put}
use Rattle.written.specs.WellFormed.{WellFormed}
use Rattle.written.proofs.Whole as whole
use Rattle.written.proofs.Stripped.{stripped-well-formed}
use Rattle.written.proofs.Accepted.{accepted-well-formed}
use Rattle.written.proofs.Again.{accepted-shorter, accepted-short, stripped-shorter}
use Rattle.model.specs.Lent.{Lent}
use Rattle.model.specs.Tables.{meaning_of}
use Rattle.model.specs.Written.{in_way, bytes_of, broken_of_ten, lowest_broken, Writes}
use Rattle.upheld.specs.Native.{Native, Room}
use Rattle.upheld.proofs.Upheld.{well-formed}
use Rattle.promises.specs.Words.{AcceptedAs}
use Rattle.promises.specs.Back.{Begin}
use Rattle.promises.proofs.Back.{begin-front}
use Rattle.promises.proofs.Demands.{acceptance-fills}
use Rattle.returned.specs.Lending.{lent_of}
use Rattle.returned.proofs.Returned.{means-what-was-read, rules-hold}
use Rattle.rewriting.specs.Words.{Wrote, bytes_in, AcceptedMeaning, places_for}
use Rattle.rewriting.proofs.Sounds.{sound}

-- ── what was written ──

got_same : {a b : A.Artifact} {c d : Cursor} → ◌≡◌ {A = Outcome A.Artifact} (got a c) (got b d) → a ≡ b
got_same e = cc

well-in : (stripped : Bool) (places : A.Places) (mask : ℕ) (m : Lent) → Native m → Room places m → broken_of_ten mask m ≡ 0 →
    WellFormed places mask (in_way stripped (meaning_of m))
well-in false places mask m native room ok = well-formed places mask m native room ok
well-in true places mask m native room ok = stripped-well-formed places mask (meaning_of m) (well-formed places mask m native room ok)

bytes-taken : (n : ℕ) (s : List ℕ) → Bytes s → Bytes (take n s)
bytes-taken zero s h i = omega arith
bytes-taken (suc n) [] h i = omega arith
bytes-taken (suc n) (x ∷ xs) h zero = h 0
bytes-taken (suc n) (x ∷ xs) h (suc i) = bytes-taken n xs (λ j. h (suc j)) i

-- ── reads into thirteen tables ──

module _ (t1 t2 t3 t4 t5 t6 t7 t8 t9 t10 t11 t12 t13 : List ℕ) where
  abbrev tables : List (List ℕ)
  tables = t1 ∷ t2 ∷ t3 ∷ t4 ∷ t5 ∷ t6 ∷ t7 ∷ t8 ∷ t9 ∷ t10 ∷ t11 ∷ t12 ∷ t13 ∷ []

  module _ {mask : ℕ} {s : List ℕ} {exit : List (List ℕ)} {a : Artifact} (read : Answered mask s tables exit (Ok a)) (bytes : Bytes s) where
    pub accepted : AcceptedAs mask s tables exit a
    accepted = acceptance-fills t1 t2 t3 t4 t5 t6 t7 t8 t9 t10 t11 t12 t13 read

    begins : Begin exit (tables_of accepted.what)
    begins = rw accepted.leaves (begin-front tables (tables_of accepted.what) refl)

    -- demand 2: the tables of an accepted read mean what was read
    pub read-means : meaning_of (lent_of a exit s) ≡ mean accepted.what
    read-means =
        ap (λ (o : Artifact). meaning_of (lent_of o exit s)) accepted.answers
        ∙ means-what-was-read (places_of tables) mask s bytes accepted.what accepted.last accepted.read exit begins

    -- and they keep the rules under the same mask, in either way of writing
    bytes-are : (stripped : Bool) → bytes_of stripped (lent_of a exit s) ≡ put (in_way stripped (mean accepted.what))
    unfolding bytes_of
    bytes-are stripped = rw read-means

    kept-no-longer : length (put (mean accepted.what)) ≤ length s
    kept-no-longer = accepted-shorter (places_of tables) mask s accepted.what accepted.last accepted.read

    no_longer : (stripped : Bool) → length (put (in_way stripped (mean accepted.what))) ≤ length s
    no_longer false = kept-no-longer
    no_longer true = le_trans (stripped-shorter (mean accepted.what)) kept-no-longer

    pub rewritten-no-longer : (stripped : Bool) → length (bytes_of stripped (lent_of a exit s)) ≤ length s
    rewritten-no-longer stripped = rw (bytes-are stripped) (no_longer stripped)

    pub read-keeps-the-rules : (stripped : Bool) → lowest_broken mask stripped (lent_of a exit s) ≡ 0
    unfolding lowest_broken
    read-keeps-the-rules stripped =
        let short = accepted-short (places_of tables) mask s accepted.what accepted.last accepted.read in
        let ten : broken_of_ten mask (lent_of a exit s) ≡ 0 =
        ap (λ (o : Artifact). broken_of_ten mask (lent_of o exit s)) accepted.answers
        ∙ rules-hold (places_of tables) mask s bytes accepted.what accepted.last accepted.read exit begins in
        rw (ten, le-leb _ _ (le_trans (rewritten-no-longer stripped) short))

    -- so they are written wherever the file that was read would have had room
    pub read-can-be-written : {stripped : Bool} {entry after : List ℕ} {answer : Result ℕ Refusal} → Writes mask stripped (lent_of a exit s) entry after answer →
        length s ≤ length entry → answer ≡ Ok (length (bytes_of stripped (lent_of a exit s)))
    read-can-be-written {stripped} {entry} {after} {answer} writes room =
        writes.result ∙ rw (read-keeps-the-rules stripped, le-leb _ _ (le_trans (rewritten-no-longer stripped) room))

    -- written again with positions kept it gives its own bytes back exactly where they are what the writer writes of something
    -- well-formed: shortest numbers outside the position table, 0 0 where there is no position, and 0 or 1 for inclusive
    pub own-bytes-back : (m : Meaning) → WellFormed (places_of tables) mask m → put m ≡ s → bytes_of false (lent_of a exit s) ≡ s
    own-bytes-back m ok is =
        let short = accepted-short (places_of tables) mask s accepted.what accepted.last accepted.read in
        let r = whole.written-read-back (places_of tables) mask m ok (rw is short) in
        let e = rw is at r.result in
        bytes-are false ∙ rw (got_same (sym accepted.read ∙ e), r.means) is

    pub own-bytes-only : bytes_of false (lent_of a exit s) ≡ s → (m : Meaning) × (WellFormed (places_of tables) mask m × (put m ≡ s))
    own-bytes-only is = (
      mean accepted.what,
      (accepted-well-formed (places_of tables) mask s bytes accepted.what accepted.last accepted.read, sym (bytes-are false) ∙ is),
    )

  -- ── demand 2: written and read back ──

  pub written-read-back : {mask : ℕ} {stripped : Bool} {m : Lent} {n : ℕ} (call : Wrote mask stripped m n) → Native m → Bytes call.exit →
      {exit : List (List ℕ)} {answer : Result Artifact Refusal} → Answered mask (bytes_in call) tables exit answer → Room (places_of tables) m →
      AcceptedMeaning (bytes_in call) exit answer (in_way stripped (meaning_of m))
  unfolding bytes_of
  written-read-back {mask} {stripped} {m} {n} call native bytes {exit} {answer} read room =
      let ok = sound call in
      let r = whole.written-read-back (places_of tables) mask (in_way stripped (meaning_of m)) (well-in stripped (places_of tables) mask m native room ok.rules) ok.short in
      let is : bytes_in call ≡ put (in_way stripped (meaning_of m)) = ok.bytes in
      let e = rw (← is) at r.result in
      let answers : answer ≡ Ok (outside r.value) = read.result ∙ ap answer_of e in
      let accepting : Answered mask (bytes_in call) tables exit (Ok (outside r.value)) = rw answers at read in
      let taken : Bytes (bytes_in call) = bytes-taken n call.exit bytes in
      record {
        what = outside r.value;
        answers = answers;
        means = read-means accepting taken ∙ ap mean (got_same (sym (accepted accepting taken).read ∙ e)) ∙ r.means;
      }

-- ── demand 3, its second half: two sets written with positions kept ──

module _ (m n : Lent) where
  room-first : Room (places_for m n) m
  room-first =
      record {
        names = omega arith;
        constants = omega arith;
        tokens = omega arith;
        assigns = omega arith;
        chains = omega arith;
        steps = omega arith;
        switches = omega arith;
        cases = omega arith;
        ranges = omega arith;
        customs = omega arith;
        inputs = omega arith;
        functions = omega arith;
        parameters = omega arith;
      }

  room-second : Room (places_for m n) n
  room-second =
      record {
        names = omega arith;
        constants = omega arith;
        tokens = omega arith;
        assigns = omega arith;
        chains = omega arith;
        steps = omega arith;
        switches = omega arith;
        cases = omega arith;
        ranges = omega arith;
        customs = omega arith;
        inputs = omega arith;
        functions = omega arith;
        parameters = omega arith;
      }

module _ {mask : ℕ} {m n : Lent} {j k : ℕ} (first : Wrote mask false m j) (second : Wrote mask false n k) where
  -- they mean the same only if
  pub same-meaning-same-bytes : meaning_of m ≡ meaning_of n → bytes_in first ≡ bytes_in second
  unfolding bytes_of
  same-meaning-same-bytes same = (sound first).bytes ∙ rw same (sym (sound second).bytes)

  module _ (native-m : Native m) (native-n : Native n) where
    well-first : WellFormed (places_for m n) mask (meaning_of m)
    well-first = well-formed (places_for m n) mask m native-m (room-first m n) (sound first).rules

    well-second : WellFormed (places_for m n) mask (meaning_of n)
    well-second = well-formed (places_for m n) mask n native-n (room-second m n) (sound second).rules

    -- and if the bytes are equal
    pub same-bytes-same-meaning : bytes_in first ≡ bytes_in second → meaning_of m ≡ meaning_of n
    unfolding bytes_of
    same-bytes-same-meaning same =
        whole.same-bytes-same-meaning (places_for m n) mask (meaning_of m) (meaning_of n) well-first well-second
        (sym (sound first).bytes ∙ same ∙ (sound second).bytes)

    -- neither is a front of a longer other
    pub no-front-of-a-longer : (t : List ℕ) → bytes_in first ++ t ≡ bytes_in second → t ≡ []
    unfolding bytes_of
    no-front-of-a-longer t same =
        whole.no-front-of-a-longer (places_for m n) mask (meaning_of m) (meaning_of n) well-first well-second t
        (rw ((sound first).bytes, (sound second).bytes) at same)
