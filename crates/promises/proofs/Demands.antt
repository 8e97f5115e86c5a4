-- The demands on the reader, as theorems about what `reading::read` answers and leaves.
use Rattle.std.specs.Prelude.{Result, Ok, Err}
use Prim.Native.Nat.{ℕ, ◌≤◌, ◌<◌}
use mathlib.Core.Path.{◌≡◌, refl, sym, ◌∙◌, ap}
use mathlib.Core.List.{List, [], ◌∷◌, ◌++◌}
use native.Mathlib.Omega.{arith}
use lib.ListN.{length, take}
use Rattle.refusal.specs.declared.Refusal.{Refusal}
use Rattle.grammar.specs.declared.Cursor.{Cursor}
use Rattle.grammar.specs.Outcome.{Outcome, got, refused}
use Rattle.format.specs.Artifact as A
use Rattle.format.specs.File as definition
use Rattle.format.specs.Rows.{tables_of}
use Rattle.format.proofs.Torn as torn
use Rattle.rows.specs.Given.{Bytes}
use Rattle.stored.proofs.Stored.{read_back}
use Rattle.format.specs.declared.answer.Artifact.{Artifact}
use Rattle.reading.specs.Answer.{places_of, outside, answer_of, tables_after, Answered}
use Rattle.promises.specs.Back.{TablesGive}
use Rattle.promises.specs.Words.{Call, SameTables, RefusedWith, AcceptedAs, zeros}
use Rattle.promises.proofs.Tables.{same-places}
use Rattle.promises.proofs.Front.{accepted-in-front}
use Rattle.promises.proofs.Back.{begin-front, tables-give}

accepted-refused : {a : Artifact} {r : Refusal} → Ok a ≡ Err r → ⊥
accepted-refused e = let z : ◌≡◌ {A = ℕ} 0 1 = cc in omega arith

-- ── demand 1: any bytes and any lent tables get an answer, one and only one ──

pub an-answer : (mask : ℕ) (s : List ℕ) (entry : List (List ℕ)) →
    Answered mask s entry (tables_after (definition.read (places_of entry) mask s) entry) (answer_of (definition.read (places_of entry) mask s))
an-answer mask s entry = record { result = refl; tables = refl }

pub one_answer : {mask : ℕ} {s : List ℕ} {a b : Result Artifact Refusal} (first : Call mask s a) (second : Call mask s b) → first.entry ≡ second.entry →
    (a ≡ b) × (first.exit ≡ second.exit)
one_answer {mask} {s} first second same =
    (first.contract.result ∙ rw same (sym second.contract.result), first.contract.tables ∙ rw same (sym second.contract.tables))

-- a refusal leaves every table zero
pub refusal-clears : {mask : ℕ} {s : List ℕ} {r : Refusal} (call : Call mask s (Err r)) → RefusedWith call r
refusal-clears {mask} {s} {r} call = record { answers = refl; leaves = go (definition.read (places_of call.entry) mask s) call.contract.result call.contract.tables }
  where
    go : (o : Outcome A.Artifact) → Err r ≡ answer_of o → call.exit ≡ tables_after o call.entry → call.exit ≡ zeros call.entry
    go (got a last) e t = absurd (accepted-refused (sym e))
    go (refused q) e t = t

-- what the definition gave where a call accepted
record Given (o : Outcome A.Artifact) (a : Artifact) : Type 0 where
  what : A.Artifact
  last : Cursor
  gave : o ≡ got what last
  tells : a ≡ outside what

given : (o : Outcome A.Artifact) {a : Artifact} → Ok a ≡ answer_of o → Given o a
given (got what last) e = record { what = what; last = last; gave = refl; tells = cc }
given (refused r) e = absurd (accepted-refused e)

-- an acceptance leaves in each of the thirteen tables the rows of what was read, and zeros behind them
module _ (t1 t2 t3 t4 t5 t6 t7 t8 t9 t10 t11 t12 t13 : List ℕ) where
  abbrev tables : List (List ℕ)
  tables = t1 ∷ t2 ∷ t3 ∷ t4 ∷ t5 ∷ t6 ∷ t7 ∷ t8 ∷ t9 ∷ t10 ∷ t11 ∷ t12 ∷ t13 ∷ []

  pub acceptance-fills : {mask : ℕ} {s : List ℕ} {exit : List (List ℕ)} {a : Artifact} → Answered mask s tables exit (Ok a) →
      AcceptedAs mask s tables exit a
  acceptance-fills {mask} {s} {exit} {a} contract =
      let o : Outcome A.Artifact = definition.read (places_of tables) mask s in
      let g : Given o a = given o contract.result in
      record {
        what = g.what;
        last = g.last;
        read = g.gave;
        answers = g.tells;
        leaves = contract.tables ∙ ap (λ (o : Outcome A.Artifact). tables_after o tables) g.gave
            ∙ accepted-in-front t1 t2 t3 t4 t5 t6 t7 t8 t9 t10 t11 t12 t13 mask s g.what g.last g.gave;
      }

  -- and the rows of each table, cut apart and taken back, are the records that were read
  pub acceptance-gives-back : {mask : ℕ} {s : List ℕ} {exit : List (List ℕ)} {a : Artifact} → Bytes s → (accepted : AcceptedAs mask s tables exit a) →
      TablesGive accepted.what exit
  acceptance-gives-back {mask} {s} bytes accepted =
      rw accepted.leaves
      (tables-give accepted.what _ (read_back (places_of tables) mask s bytes accepted.what accepted.last accepted.read)
      (begin-front tables (tables_of accepted.what) refl))

-- ── demand 3, its first half ──

-- a call whose bytes the definition refuses
refused-by : {mask : ℕ} {s : List ℕ} {a : Result Artifact Refusal} {r : Refusal} (call : Call mask s a) → definition.read (places_of call.entry) mask s ≡ refused r → RefusedWith call r
refused-by call e = record { answers = call.contract.result ∙ ap answer_of e; leaves = call.contract.tables ∙ rw e }

module _ {mask : ℕ} {s : List ℕ} {a : Artifact} (accepting : Call mask s (Ok a)) where
  gives : Given (definition.read (places_of accepting.entry) mask s) a
  gives = given _ accepting.contract.result

  -- every shorter front, the empty one too, is refused as Truncated
  pub front-refused : (k : ℕ) → k < length s → {b : Result Artifact Refusal} (later : Call mask (take k s) b) → SameTables accepting later →
      RefusedWith later Refusal.Truncated
  front-refused k h later same =
      refused-by later (rw (same-places accepting.entry later.entry same) at (torn.front-refused (places_of accepting.entry) mask s gives.what gives.last gives.gave k h))

  -- with n more bytes behind, n at least 1 and the whole within 1,048,576, they are refused as TrailingBytes with exactly n
  pub more-refused : (t : List ℕ) → 1 ≤ length t → length (s ++ t) ≤ 1048576 → {b : Result Artifact Refusal} (later : Call mask (s ++ t) b) → SameTables accepting later →
      RefusedWith later (Refusal.TrailingBytes (length t))
  more-refused t h limit later same =
      refused-by later (rw (same-places accepting.entry later.entry same) at (torn.more-refused (places_of accepting.entry) mask s gives.what gives.last gives.gave t (omega arith) limit))
