-- The rows that a read stores give its records back, and those of its constants their tree.
use Prim.Native.Nat.{ℕ}
use mathlib.Core.Path.{◌≡◌}
use mathlib.Core.List.{List, [], ◌∷◌}
use Rattle.grammar.specs.declared.Cursor.{Cursor}
use Rattle.grammar.specs.Outcome.{start, got}
use Rattle.grammar.specs.Combinators.{Each}
use Rattle.tables.specs.Table.{With}
use Rattle.format.specs.Artifact as A
use Rattle.format.specs.File as definition
use Rattle.leaves.proofs.Accepted.{sections-got}
use Rattle.rows.specs.Fits.{Throughout, FitsArtifact}
use Rattle.rows.specs.Given.{Bytes, GivenBack}
use Rattle.stored.proofs.Fitting.{leaves-artifact}
use Rattle.stored.proofs.Growing.{constants-back}
use Rattle.stored.proofs.Inverse.{end_back, token_back, assign-back, chain_back, step_back, switch_back, case-back, range_back, site-back, input_back, function-back, parameter-back}

-- what follows for one follows for each
pub each : {X : Type 0} {P Q : X → Type 0} → ((x : X) → P x → Q x) → (xs : List X) → Each P xs → Each Q xs
each one [] ok = tt
each one (x ∷ xs) ok = (one x ok.0, each one xs ok.1)

all : {X : Type 0} {Q : X → Type 0} → ((x : X) → Q x) → (xs : List X) → Each Q xs
all one [] = tt
all one (x ∷ xs) = (one x, all one xs)

throughout : {X Y : Type 0} {P P' : X → Type 0} {Q Q' : Y → Type 0} → ((x : X) → P x → P' x) → ((y : Y) → Q y → Q' y) →
    (w : With X Y) → Throughout P Q w → Throughout P' Q' w
throughout whole item w ok = record { whole = whole w.whole ok.whole; items = each item w.items ok.items }

pub fitting-back : (a : A.Artifact) → FitsArtifact a → GivenBack a
fitting-back a fits =
    record {
      names = each end_back a.names.ends fits.ends;
      constants = constants-back a.constants fits.constants;
      tokens = all token_back a.tokens;
      assigns = each assign-back a.assigns fits.assigns;
      chains = each (throughout chain_back step_back) a.chains fits.chains;
      switches = each (λ w ok.
          record { whole = switch_back w.whole ok.whole; cases = each case-back w.cases ok.cases; ranges = each range_back w.ranges ok.ranges })
          a.switches fits.switches;
      customs = each (throughout site-back input_back) a.customs fits.customs;
      functions = each (throughout function-back parameter-back) a.functions fits.functions;
    }

module _ (P : A.Places) (mask : ℕ) (s : List ℕ) (bytes : Bytes s) (a : A.Artifact) (last : Cursor) (read : definition.read P mask s ≡ got a last) where
  -- what the definition reads of bytes fits its rows,
  pub read_fits : FitsArtifact a
  read_fits = (leaves-artifact bytes P mask).always start a last (sections-got P mask s a last read)

  -- and each of its records is given back by its row
  pub read_back : GivenBack a
  read_back = fitting-back a read_fits
