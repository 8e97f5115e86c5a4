-- The position table is given back.
use Rattle.std.proofs.Common.{if◌then◌else◌}
use Prim.Native.Nat.{ℕ}
use mathlib.Core.Path.{◌≡◌, refl, ◌∙◌, ap}
use mathlib.Core.Logic.{◌⊎◌, inl, inr}
use mathlib.Core.Bool.{Bool, true, false}
use mathlib.Core.List.{List, [], append-nil}
use lib.ListN.{length, take}
use lib.Seq.{take_at}
use lib.Dec.{eqb}
use Rattle.grammar.specs.Outcome.{Parser, pure, ◌>>=◌}
use Rattle.grammar.specs.Combinators.{Text, text}
use Rattle.grammar.specs.RoundTrip.{Gives}
use Rattle.grammar.proofs.RoundTrip.{gives-pure, gives-bind, gives_nothing, gives-taking}
use Rattle.refusal.specs.declared.Refusal.{Refusal}
use Rattle.std.specs.Prelude.{Result, Ok}
use Rattle.position_table.specs.Table.{checked}
use Rattle.format.specs.File as definition
use Rattle.written.specs.Meaning.{mean_text}
use Rattle.written.specs.Put.{put_bytes}
use Rattle.written.specs.WellFormed.{Counted, WellPositions}
use Rattle.written.proofs.Parts.{gives_then, gives-count}

-- a text's length besides, by which an empty table is known
abbrev sized : Text → ℕ × List ℕ
sized t = (t.span.size, t.bytes)

gives-sized : {s : List ℕ} (t : List ℕ) → Counted t → Gives sized s definition.bytes (put_bytes t) (length t, t)
unfolding definition.bytes text
gives-sized t h =
    gives_then _ (gives-count h)
    (gives-taking (length t) _ refl (λ at h. ap (λ (l : List ℕ). (length t, l)) (ap (take (length t)) h.found ∙ take_at t _ (length t) refl)))

sound-table : (t : List ℕ) → (t ≡ []) ⊎ (checked t ≡ Ok tt) → (if eqb (length t) 0 then Ok tt else checked t) ≡ Ok tt
sound-table t (inl e) = rw e
sound-table t (inr e) = go (eqb (length t) 0)
  where
    go : (b : Bool) → (if b then Ok tt else checked t) ≡ Ok tt
    go true = refl
    go false = e

gives-sound : {B M : Type 0} {mean : B → M} {s w : List ℕ} {m : M} {answer : Result Unit Refusal} (f : Unit → Parser B) → answer ≡ Ok tt →
    Gives mean s (f tt) w m → Gives mean s (definition.sound answer >>= f) w m
unfolding definition.sound ◌>>=◌ pure
gives-sound f e g = gives_nothing _ (λ c h. rw e) g

pub gives-positions : {s : List ℕ} (t : List ℕ) → WellPositions t → Gives mean_text s definition.positions (put_bytes t) t
unfolding definition.positions
gives-positions t ok =
    rw (← append-nil (put_bytes t))
    (gives-bind sized mean_text (put_bytes t) [] (length t, t) (gives-sized t ok.counted) (λ x e.
    gives-sound _ (ap (λ (y : ℕ × List ℕ). if eqb y.0 0 then Ok tt else checked y.1) e ∙ sound-table t ok.sound)
    (gives-pure x (ap (λ (y : ℕ × List ℕ). y.1) e))))
