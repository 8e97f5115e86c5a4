-- The bytes of what tables mean, as the two halves that are put.
use Prim.Native.Nat.{ℕ}
use mathlib.Core.Path.{◌≡◌, refl, ◌∙◌}
use mathlib.Core.Bool.{Bool, true, false}
use mathlib.Core.List.{List, ◌++◌, append_assoc}
use Rattle.grammar.specs.Number.{shortest}
use Rattle.format.specs.Artifact.{levels}
use Rattle.written.specs.Meaning.{Meaning}
use Rattle.written.specs.Put.{put, put_header, put_bytes, put_list, put_constant, put_assign}
use Rattle.written.specs.Strip.{strip}
use Rattle.model.specs.Lent.{Lent}
use Rattle.model.specs.Tables.{meaning_of}
use Rattle.model.specs.Written.{in_way, bytes_of}
use Rattle.emit.specs.Puts.{Puts}
use Rattle.emit.proofs.Laws.{puts-same, puts_then}
use Rattle.writing.specs.Ready.{Ready}
use Rattle.writing.specs.Halves.{put_front, put_back, front_of, back_of}
use Rattle.writing.proofs.Rows.{Exact, exact}

-- ── of a meaning ──

-- names are one section in the definition
regroup : (header source ends blob constants tokens assigns rest : List ℕ) →
    (header ++ (source ++ (ends ++ (blob ++ (constants ++ (tokens ++ assigns)))))) ++ rest
    ≡ header ++ (source ++ ((ends ++ blob) ++ (constants ++ (tokens ++ (assigns ++ rest)))))
regroup header source ends blob constants tokens assigns rest = simp append_assoc

alike : {a b c d : List ℕ} → a ≡ c → b ≡ d → a ++ b ≡ c ++ d
alike p q = rw (p, q)

module _ (p : Meaning) where
  abbrev front : List ℕ
  front = put_front p.header p.source p.names.ends p.names.blob p.constants p.tokens p.assigns

  abbrev back : List ℕ
  back = put_back p.chains p.switches p.customs p.main p.functions p.code p.positions

  halves : front ++ back ≡ put p
  unfolding put
  halves =
      regroup (put_header p.header) (put_bytes p.source) (put_list shortest p.names.ends) (put_bytes p.names.blob)
      (put_list (put_constant levels) p.constants) (put_list put_bytes p.tokens) (put_list put_assign p.assigns) back

-- ── of tables ──

module _ (m : Lent) where
  front-means : (stripped : Bool) → front_of m ≡ front (in_way stripped (meaning_of m))
  unfolding front_of strip meaning_of
  front-means false = refl
  front-means true = refl

  back-means : (stripped : Bool) → Exact m → back_of m stripped ≡ back (in_way stripped (meaning_of m))
  unfolding back_of strip meaning_of
  back-means false x = rw (x.steps, x.cases, x.ranges, x.inputs, x.parameters)
  back-means true x = rw (x.steps, x.cases, x.ranges, x.inputs, x.parameters)

  pub joined : (stripped : Bool) → Exact m → front_of m ++ back_of m stripped ≡ bytes_of stripped m
  unfolding bytes_of
  joined stripped x = alike (front-means stripped) (back-means stripped x) ∙ halves (in_way stripped (meaning_of m))

-- one half behind the other
pub puts-halves : {m : Lent} (stripped : Bool) {e x exit : List ℕ} {mid next : ℕ} → Ready m → Puts (front_of m) e 0 x mid →
    Puts (back_of m stripped) x mid exit next → Puts (bytes_of stripped m) e 0 exit next
puts-halves {m} stripped r p q = puts-same (joined m stripped (exact r)) (puts_then p q)
