-- Too long or not, accepted or not: what stands behind the rows that stay is cleared.
use Rattle.std.proofs.Common.{◌≡◌, ◌∙◌, ℕ, List, [], ◌∷◌, Result, Ok, Err, ap, sym, refl, arith, replicate, map, length}
use Rattle.refusal.specs.declared.Refusal.{Refusal}
use Rattle.format.specs.File as definition
use Rattle.format.specs.declared.answer.Artifact.{Artifact}
use Rattle.reading.specs.Answer.{places_of}
use Rattle.reading.specs.Places.{words_of}
use Rattle.reading.specs.Sections.{Sections}
use Rattle.reading.proofs.Behind.{both}
use Rattle.reading.proofs.Whole.{over-limit, within-limit, all-cleared-behind}
use Rattle.reading.proofs.read.read.Goals as goal
use Rattle.reading.proofs.read.read.Goals.{then-bytes-gt-BYTES, else-bytes-gt-BYTES, in-Ok, in-Err}

abbrev zeros : ℕ → List ℕ
zeros n = replicate n 0

ok-is : {r : Result Artifact Refusal} {a b : Artifact} → r ≡ Ok a → r ≡ Ok b → a ≡ b
ok-is {r} {a} {b} e f = let same : ◌≡◌ {A = Result Artifact Refusal} (Ok a) (Ok b) = sym e ∙ f in cc

ok-no-err : {P : Type 0} {r : Result Artifact Refusal} {a : Artifact} {why : Refusal} → r ≡ Ok a → r ≡ Err why → P
ok-no-err {P} {r} {a} {why} e f = let no : ◌≡◌ {A = Result Artifact Refusal} (Ok a) (Err why) = sym e ∙ f in absurd cc

pub returns : goal.returns
returns c =
    let entry : List (List ℕ) = c.args.names.now ∷ c.args.constants.now ∷ c.args.tokens.now ∷ c.args.assigns.now ∷ c.args.chains.now ∷ c.args.steps.now ∷ c.args.switches.now ∷ c.args.cases.now ∷ c.args.ranges.now ∷ c.args.customs.now ∷ c.args.inputs.now ∷ c.args.functions.now ∷ c.args.parameters.now ∷ [] in
    let between : List (List ℕ) = c.if-bytes-gt-BYTES.names ∷ c.if-bytes-gt-BYTES.constants ∷ c.if-bytes-gt-BYTES.tokens ∷ c.if-bytes-gt-BYTES.assigns ∷ c.if-bytes-gt-BYTES.chains ∷ c.if-bytes-gt-BYTES.steps ∷ c.if-bytes-gt-BYTES.switches ∷ c.if-bytes-gt-BYTES.cases ∷ c.if-bytes-gt-BYTES.ranges ∷ c.if-bytes-gt-BYTES.customs ∷ c.if-bytes-gt-BYTES.inputs ∷ c.if-bytes-gt-BYTES.functions ∷ c.if-bytes-gt-BYTES.parameters ∷ [] in
    let kept : map zeros (map length between) ≡ map (λ t. zeros (length t)) entry =
    both (ap zeros c.if-bytes-gt-BYTES.auto.names) (both (ap zeros c.if-bytes-gt-BYTES.auto.constants) (both (ap zeros c.if-bytes-gt-BYTES.auto.tokens) (both (ap zeros c.if-bytes-gt-BYTES.auto.assigns) (both (ap zeros c.if-bytes-gt-BYTES.auto.chains) (both (ap zeros c.if-bytes-gt-BYTES.auto.steps) (both (ap zeros c.if-bytes-gt-BYTES.auto.switches) (both (ap zeros c.if-bytes-gt-BYTES.auto.cases) (both (ap zeros c.if-bytes-gt-BYTES.auto.ranges) (both (ap zeros c.if-bytes-gt-BYTES.auto.customs) (both (ap zeros c.if-bytes-gt-BYTES.auto.inputs) (both (ap zeros c.if-bytes-gt-BYTES.auto.functions) (both (ap zeros c.if-bytes-gt-BYTES.auto.parameters) refl)))))))))))) in
    let got : Sections (definition.read (places_of entry) c.args.mask c.args.bytes.now) entry between c.if-bytes-gt-BYTES.answer =
    elim c.if-bytes-gt-BYTES.branch [
      | then-bytes-gt-BYTES w ↦ over-limit _ _ _ w.if-bytes-gt-BYTES.true w.answer-is
      | else-bytes-gt-BYTES w ↦ rw (w.names-is, w.constants-is, w.tokens-is, w.assigns-is, w.chains-is, w.steps-is, w.switches-is, w.cases-is, w.ranges-is, w.customs-is, w.inputs-is, w.functions-is, w.parameters-is, w.answer-is) (within-limit _ _ _ (omega (arith, w.if-bytes-gt-BYTES.false)) w.artifact-answer.ensures)
    ] in
    let accepted : (a : Artifact) → c.if-bytes-gt-BYTES.answer ≡ Ok a → c.match-answer.used ≡ a.used =
    elim c.match-answer.branch [
      | in-Ok w ↦ λ a e. w.used-is ∙ ap (λ (x : Artifact). x.used) (ok-is w.in-Ok.is e)
      | in-Err w ↦ λ a e. ok-no-err e w.in-Err.is
    ] in
    let nothing : (r : Refusal) → c.if-bytes-gt-BYTES.answer ≡ Err r → words_of c.match-answer.used ≡ replicate 13 0 =
    elim c.match-answer.branch [
      | in-Ok w ↦ λ r e. ok-no-err w.in-Ok.is e
      | in-Err w ↦ λ r e. let d = w.default-used.ensures in rw w.used-is (rw (d.0, d.1.0, d.1.1.0, d.1.1.1.0, d.1.1.1.1.0, d.1.1.1.1.1.0, d.1.1.1.1.1.1.0, d.1.1.1.1.1.1.1.0, d.1.1.1.1.1.1.1.1.0, d.1.1.1.1.1.1.1.1.1.0, d.1.1.1.1.1.1.1.1.1.1.0, d.1.1.1.1.1.1.1.1.1.1.1.0, d.1.1.1.1.1.1.1.1.1.1.1.1))
    ] in
    let same : c.match-answer.answer ≡ c.if-bytes-gt-BYTES.answer =
    elim c.match-answer.branch [
      | in-Ok w ↦ w.answer-is ∙ sym w.in-Ok.is
      | in-Err w ↦ w.answer-is
    ] in
    rw same (all-cleared-behind _ _ _ got accepted nothing kept c.clear_behind.ensures)
