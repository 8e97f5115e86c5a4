-- Texts by their places in the bytes that were read are the texts that were read.
use Prim.Native.Nat.{ℕ, zero, suc}
use mathlib.Core.Path.{◌≡◌, refl, ◌∙◌, ap}
use mathlib.Core.List.{List, [], map}
use Rattle.grammar.specs.Combinators.{Text, Each}
use Rattle.tables.specs.Table.{With}
use Rattle.format.specs.declared.records.NameIndex.{NameIndex}
use Rattle.format.specs.declared.records.Chunk.{Chunk}
use Rattle.format.specs.declared.records.Step.{Step}
use Rattle.format.specs.declared.records.Chain.{Chain}
use Rattle.format.specs.declared.records.Input.{Input}
use Rattle.format.specs.declared.records.Site.{Site}
use Rattle.format.specs.declared.records.Function.{Function}
use Rattle.format.specs.Artifact as A
use Rattle.rows.specs.Given.{placed_assign}
use Rattle.format.specs.Rows as R
use Rattle.rows.specs.Tree.{Grown, over_texts}
use Rattle.written.specs.Meaning.{Meaning, mean_text, mean_constant, mean_assign}
use Rattle.model.specs.Lent.{clip}
use Rattle.model.specs.Tables.{assign_means}
use Rattle.returned.proofs.Texts.{Spelled, Told, ToldAssign}
use Rattle.returned.proofs.Lists.{twice}

module _ (s : List ℕ) where
  pub token-means : (t : Text) → Spelled s t → clip s t.span ≡ mean_text t
  token-means t ok = rw ok.stands.is

  pub assign-means : (a : A.Assign Text) → ToldAssign s a → assign_means s (placed_assign a) ≡ mean_assign a
  assign-means a ok = rw (ok.op_assign.stands.is, ok.op.stands.is)

  -- a constant of one level more
  module _ (levels : ℕ) (deeper : (c : A.Constant Text levels) → Told s levels c → over_texts (clip s) levels (over_texts (λ t. t.span) levels c) ≡ mean_constant levels c) where
    items-mean : (cs : List (A.Constant Text levels)) → Each (Told s levels) cs →
        map (over_texts (clip s) levels) (map (over_texts (λ t. t.span) levels) cs) ≡ map (mean_constant levels) cs
    items-mean cs ok = twice _ _ _ deeper cs ok

    one-means : (c : A.Constant Text (suc levels)) → Told s (suc levels) c →
        over_texts (clip s) (suc levels) (over_texts (λ t. t.span) (suc levels) c) ≡ mean_constant (suc levels) c
    one-means A.unit ok = refl
    one-means (A.boolean b) ok = refl
    one-means (A.int n) ok = refl
    one-means (A.float bits) ok = refl
    one-means (A.char code) ok = refl
    one-means (A.str t) ok = rw ok.stands.is
    one-means (A.array items) ok = rw (items-mean items ok)
    one-means (A.map entries) ok = ap A.map (twice _ _ _ entry-means entries ok)
      where
        entry-means : (entry : Text × A.Constant Text levels) → Spelled s entry.0 × Told s levels entry.1 →
            ◌≡◌ {A = List ℕ × A.Constant (List ℕ) levels} (clip s entry.0.span, over_texts (clip s) levels (over_texts (λ t. t.span) levels entry.1))
            (mean_text entry.0, mean_constant levels entry.1)
        entry-means entry ok = rw (ok.0.stands.is, deeper entry.1 ok.1)
    one-means (A.blob t) ok = rw ok.is
    one-means (A.range from to) ok = refl
    one-means (A.range_inclusive from to) ok = refl
    one-means (A.pointer name curried kind) ok = rw (ok.0.stands.is, items-mean curried ok.1)

  pub constant-means : (levels : ℕ) (c : A.Constant Text levels) → Told s levels c → over_texts (clip s) levels (over_texts (λ t. t.span) levels c) ≡ mean_constant levels c
  constant-means zero c ok = absurd c
  constant-means (suc levels) c ok = one-means levels (constant-means levels) c ok

  -- constants that grew from rows without keys
  pub constants-mean : (levels : ℕ) (grown : Grown levels) (cs : List (A.Constant Text levels)) →
      grown ≡ record { trees = map (λ c. (R.nowhere, over_texts (λ t. t.span) levels c)) cs; rest = [] } → Each (Told s levels) cs →
      map (λ tree. over_texts (clip s) levels tree.1) grown.trees ≡ map (mean_constant levels) cs
  constants-mean levels grown cs e ok =
      ap (λ (g : Grown levels). map (λ tree. over_texts (clip s) levels tree.1) g.trees) e ∙ twice _ _ _ (constant-means levels) cs ok

-- a meaning of its parts
abbrev built : A.Header → List ℕ → List ℕ → List ℕ → List (A.Constant (List ℕ) A.levels) → List (List ℕ) → List (A.Assign (List ℕ)) → List (With Chain Step) →
    List A.Cased → List (With Site Input) → Chunk → List (With Function NameIndex) → List ℕ → List ℕ → Meaning
built header source ends blob constants tokens assigns chains switches customs main functions code positions =
    record {
      header = header;
      source = source;
      names = record { ends = ends; blob = blob };
      constants = constants;
      tokens = tokens;
      assigns = assigns;
      chains = chains;
      switches = switches;
      customs = customs;
      main = main;
      functions = functions;
      code = code;
      positions = positions;
    }

pub built-same : {h : A.Header} {so so' en en' bl bl' : List ℕ} {cs cs' : List (A.Constant (List ℕ) A.levels)} {ts ts' : List (List ℕ)} {os os' : List (A.Assign (List ℕ))}
    {ls ls' : List (With Chain Step)} {ws ws' : List A.Cased} {us us' : List (With Site Input)} {m : Chunk} {fs fs' : List (With Function NameIndex)} {co co' ps ps' : List ℕ} →
    so ≡ so' → en ≡ en' → bl ≡ bl' → cs ≡ cs' → ts ≡ ts' → os ≡ os' → ls ≡ ls' → ws ≡ ws' → us ≡ us' → fs ≡ fs' → co ≡ co' → ps ≡ ps' →
    built h so en bl cs ts os ls ws us m fs co ps ≡ built h so' en' bl' cs' ts' os' ls' ws' us' m fs' co' ps'
built-same e1 e2 e3 e4 e5 e6 e7 e8 e9 e10 e11 e12 = rw (e1, e2, e3, e4, e5, e6, e7, e8, e9, e10, e11, e12)
