-- The whole file: what is written is read back and means the same, equal bytes come only from equal meanings, and no output is a front of a longer other.
use Prim.Native.Nat.{ℕ, ◌≤◌}
use mathlib.Core.Path.{◌≡◌, sym, ◌∙◌, ap}
use mathlib.Core.List.{List, [], ◌++◌, map}
use lib.ListN.{length}
use borrow.Author.Tests.{le-ltb}
use Rattle.grammar.specs.Outcome.{start}
use Rattle.grammar.specs.RoundTrip.{Read}
use Rattle.grammar.proofs.RoundTrip.{gives-bind, gives-last}
use Rattle.grammar.proofs.Written as W
use Rattle.format.specs.Artifact as A
use Rattle.format.specs.File as definition
use Rattle.written.specs.Meaning.{Meaning, mean_text, mean_names, mean_constant, mean_assign, mean}
use Rattle.written.specs.Put.{put}
use Rattle.written.specs.WellFormed.{WellSwitches, WellFormed}
use Rattle.written.proofs.Parts.{gives_then, gives-bytes, gives-string, gives-chunk}
use Rattle.written.proofs.Lists.{length-map}
use Rattle.written.proofs.Opening.{gives-header, gives-names, gives-tokens, gives-assigns}
use Rattle.written.proofs.Constants.{gives-constants}
use Rattle.written.proofs.Chains.{gives-chains}
use Rattle.written.proofs.Switches.{gives-switches}
use Rattle.written.proofs.Callables.{gives-customs, gives-functions}
use Rattle.written.proofs.Ending.{gives-positions}

pub writes-artifact : (P : A.Places) (mask : ℕ) → W.Writes mean (definition.artifact P mask) (WellFormed P mask) put
unfolding definition.artifact put
writes-artifact P mask m ok s =
    gives_then _ (gives-header m.header ok.header)
    (gives-bind mean_text mean _ _ m.source (gives-string m.source ok.source) (λ source is-source.
    gives-bind mean_names mean _ _ m.names (gives-names P.names m.names ok.names) (λ ns is-names.
    gives-bind (map (mean_constant A.levels)) mean _ _ m.constants (gives-constants P.constants m.constants ok.constants) (λ cs is-constants.
    gives-bind (map mean_text) mean _ _ m.tokens (gives-tokens P.tokens m.tokens ok.tokens) (λ ts is-tokens.
    gives-bind (map mean_assign) mean _ _ m.assigns (gives-assigns P.assigns m.assigns ok.assigns) (λ os is-assigns.
    gives_then _ (gives-chains P.chains P.steps mask m.chains ok.chains)
    (let tops : length cs ≡ length m.constants = sym (length-map (mean_constant A.levels) cs) ∙ ap length is-constants in
    let well : WellSwitches P.switches P.cases P.ranges (length cs) m.switches = rw tops ok.switches in
    gives_then _ (gives-switches P.switches P.cases P.ranges (length cs) m.switches well)
    (gives_then _ (gives-customs P.customs P.inputs m.customs ok.customs)
    (gives_then _ (gives-chunk m.main ok.main)
    (gives_then _ (gives-functions P.functions P.parameters m.functions ok.functions)
    (gives-bind mean_text mean _ _ m.code (gives-bytes m.code ok.code) (λ code is_code.
    gives-last _ m.positions (gives-positions m.positions ok.positions) (λ ps is-positions.
    rw (is-source, is-names, is-constants, is-tokens, is-assigns, is_code, is-positions))))))))))))))

module _ (P : A.Places) (mask : ℕ) where
  -- read to its end, as something that means what was written
  pub written-read-back : (m : Meaning) → WellFormed P mask m → length (put m) ≤ 1048576 →
      Read mean (definition.read P mask (put m)) start (length (put m)) m
  unfolding definition.read
  written-read-back m ok short =
      let r = W.read_back mean (definition.artifact P mask) (WellFormed P mask) put (writes-artifact P mask) m ok in
      record { value = r.value; means = r.means; result = rw (le-ltb 1048576 (length (put m)) short) r.result }

  pub same-bytes-same-meaning : (m n : Meaning) → WellFormed P mask m → WellFormed P mask n → put m ≡ put n → m ≡ n
  same-bytes-same-meaning = W.same-output mean (definition.artifact P mask) (WellFormed P mask) put (writes-artifact P mask)

  pub no-front-of-a-longer : (m n : Meaning) → WellFormed P mask m → WellFormed P mask n → (t : List ℕ) → put m ++ t ≡ put n → t ≡ []
  no-front-of-a-longer = W.no_front mean (definition.artifact P mask) (WellFormed P mask) put (writes-artifact P mask)
