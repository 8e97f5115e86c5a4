-- The count and the top constants, which have no keys, as the contract of the section has them.
use Prim.Native.Nat.{ℕ, ◌*◌}
use mathlib.Core.Path.{◌≡◌, sym, ◌∙◌, ap}
use mathlib.Core.Bool.{false}
use mathlib.Core.List.{List, foldl}
use lib.ListN.{length}
use lib.Seq.{sets}
use Rattle.std.proofs.Common.{Result, Ok, Err}
use Rattle.std.specs.Result.{IsErrAnd}
use Rattle.std.proofs.lemmas.Result.{err_from_is_err_and}
use Rattle.constants.specs.declared.Counts.{Counts}
use Rattle.refusal.specs.declared.Refusal.{Refusal}
use Rattle.grammar.specs.declared.Cursor.{Cursor}
use Rattle.grammar.specs.Outcome.{Outcome, got, refused, ◌>>=◌}
use Rattle.grammar.specs.Combinators.{Text}
use Rattle.grammar.specs.Number.{number}
use Rattle.grammar.proofs.Outcome.{got-ne-refused, got-value}
use Rattle.tables.specs.Table.{rows}
use Rattle.format.specs.Artifact.{Constant, behind, levels}
use Rattle.format.specs.File.{constants}
use Rattle.format.specs.Rows.{nowhere, constant_rows}
use Rattle.constants.specs.Parts.{Item, item_behind, item_rows, items}
use Rattle.constants.specs.Kept.{KeptAll}
use Rattle.constants.proofs.Keeping.{Out, kept_out, kept-no}
use Rattle.constants.proofs.Plain.{Plain, plain-got, plain-refused, plain-behind, plain_rows, many-length}
use Rattle.constants.proofs.Going.{KeptList}

pub read-refused : {o : Outcome (List (Constant Text levels))} {entry exit : List ℕ} {r : Refusal} → o ≡ refused r → KeptAll o entry exit (Err r)
read-refused e = record { result = rw e; table = λ cs next is. absurd (got-ne-refused (sym is ∙ e)) }

-- an answer that is some refusal is told as that refusal
pub read_err : {o : Outcome (List (Constant Text levels))} {entry exit : List ℕ} {e : Refusal} {read : Result (Counts × Cursor) Refusal} →
    KeptAll o entry exit (Err e) → IsErrAnd read (λ x. x ≡ e) → KeptAll o entry exit read
read_err {read = read} k is = let p = err_from_is_err_and read is in rw (p.1, p.2) k

module _ (places : ℕ) (s : List ℕ) (c : Cursor) where
  pub no-count : {entry exit : List ℕ} {r : Refusal} → number 64 s c ≡ refused r → KeptAll (constants places s c) entry exit (Err r)
  unfolding constants ◌>>=◌
  no-count e = read-refused (rw e)

  module _ {n : ℕ} {next : Cursor} (count : number 64 s c ≡ got n next) where
    pub tops-refused : {entry mid : List ℕ} {r : Refusal} → KeptList places levels false n 0 s next entry mid (Err r) →
        KeptAll (constants places s c) entry mid (Err r)
    unfolding constants ◌>>=◌
    tops-refused {r = r} i = read-refused (rw (count, plain-refused places levels n 0 s next r (kept-no i)))

    all : {es : List (Item levels)} {last : Cursor} (p : Plain places levels n 0 s next es last) → constants places s c ≡ got p.xs last
    unfolding constants ◌>>=◌
    all p = rw (count, p.is)

    listed : (entry exit : List ℕ) (used : ℕ) (last : Cursor) (es : List (Item levels)) → Plain places levels n 0 s next es last →
        foldl (item_behind levels) 0 es ≡ used → exit ≡ sets entry 0 (rows (item_rows levels) es) →
        KeptAll (constants places s c) entry exit (Ok (record { tops = n; used = used }, last))
    listed entry exit used last es p ends put =
        let tops : length p.xs ≡ n = many-length _ _ n 0 s next p.xs last p.is in
        let places-used : foldl (behind Text levels) 0 p.xs ≡ used = sym (plain-behind levels 0 p.xs) ∙ ap (foldl (item_behind levels) 0) (sym p.same) ∙ ends in
        let words : rows (item_rows levels) es ≡ rows (constant_rows levels nowhere) p.xs = ap (rows (item_rows levels)) p.same ∙ plain_rows levels p.xs in
        record {
          result = rw (all p, tops, places-used);
          table = λ cs later is. put ∙ ap (sets entry 0) (words ∙ ap (rows (constant_rows levels nowhere)) (got-value (sym (all p) ∙ is)));
        }

    pub tops-got : {entry exit : List ℕ} {used : ℕ} {last : Cursor} → KeptList places levels false n 0 s next entry exit (Ok (used, last)) →
        KeptAll (constants places s c) entry exit (Ok (record { tops = n; used = used }, last))
    tops-got {entry} {exit} {used} {last} i = go (kept_out i)
      where
        go : Out (items places levels false n 0 s next) (foldl (item_behind levels) 0) (rows (item_rows levels)) (0 * 8) entry exit used last →
            KeptAll (constants places s c) entry exit (Ok (record { tops = n; used = used }, last))
        go v = listed entry exit used last v.value (plain-got places levels n 0 s next v.value last v.is) v.ends v.stored
