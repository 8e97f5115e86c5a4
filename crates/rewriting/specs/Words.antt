-- The words of the promises about writing: what `writing::write` did, by its contract, and what was read of what it wrote.
use Rattle.std.specs.Prelude.{ℕ, ◌+◌, ◌≤◌, Bool, ◌≡◌, List, length, take, Result, Ok, Err}
use Rattle.format.specs.Artifact as A
use Rattle.format.specs.declared.answer.Artifact.{Artifact}
use Rattle.refusal.specs.declared.Refusal.{Refusal}
use Rattle.std.specs.Prelude.{Result, Ok, Err}
use Rattle.written.specs.Meaning.{Meaning}
use Rattle.model.specs.Lent.{Lent}
use Rattle.model.specs.Tables.{meaning_of}
use Rattle.model.specs.Written.{Writes, bytes_of, broken_of_ten}
use Rattle.returned.specs.Lending.{lent_of}

-- one call of `writing::write` that wrote n bytes: the output before and after, as its contract says
pub record Wrote (mask : ℕ) (stripped : Bool) (m : Lent) (n : ℕ) : Type 0 where
  pub entry : List ℕ
  pub exit : List ℕ
  pub contract : Writes mask stripped m entry exit (Ok n)

-- the bytes that it wrote
abbrev pub bytes_in : {mask : ℕ} {stripped : Bool} {m : Lent} {n : ℕ} → Wrote mask stripped m n → List ℕ
bytes_in {mask} {stripped} {m} {n} call = take n call.exit

-- what such a call says: the tables keep the rules, and their bytes stand in front
pub record Sound {mask : ℕ} {stripped : Bool} {m : Lent} {n : ℕ} (call : Wrote mask stripped m n) : Type 0 where
  pub rules : broken_of_ten mask m ≡ 0
  pub size : n ≡ length (bytes_of stripped m)
  pub short : length (bytes_of stripped m) ≤ 1048576
  pub bytes : bytes_in call ≡ bytes_of stripped m

-- a read of bytes s accepted, and its tables mean so
pub record AcceptedMeaning (s : List ℕ) (exit : List (List ℕ)) (answer : Result Artifact Refusal) (meaning : Meaning) : Type 0 where
  pub what : Artifact
  pub answers : answer ≡ Ok what
  pub means : meaning_of (lent_of what exit s) ≡ meaning

-- places enough for two
abbrev pub places_for : Lent → Lent → A.Places
places_for m n =
    record {
      names = m.outside.used.names + n.outside.used.names;
      constants = m.outside.used.constants + n.outside.used.constants;
      tokens = m.outside.used.tokens + n.outside.used.tokens;
      assigns = m.outside.used.assigns + n.outside.used.assigns;
      chains = m.outside.used.chains + n.outside.used.chains;
      steps = m.outside.used.steps + n.outside.used.steps;
      switches = m.outside.used.switches + n.outside.used.switches;
      cases = m.outside.used.cases + n.outside.used.cases;
      ranges = m.outside.used.ranges + n.outside.used.ranges;
      customs = m.outside.used.customs + n.outside.used.customs;
      inputs = m.outside.used.inputs + n.outside.used.inputs;
      functions = m.outside.used.functions + n.outside.used.functions;
      parameters = m.outside.used.parameters + n.outside.used.parameters;
    }
