-- The least artifact of document 01, 43 bytes, is what the empty meaning is written as, and the empty meaning is well-formed whatever the mask and the places.
use Prim.Native.Nat.{ℕ}
use mathlib.Core.Path.{◌≡◌, refl}
use mathlib.Core.Logic.{inl}
use mathlib.Core.List.{[], ◌∷◌, ◌++◌}
use native.Mathlib.Omega.{arith}
use lib.ListN.{replicate}
use Rattle.grammar.specs.Number.{shortest, shortest_in}
use Rattle.utf8.specs.Check.{passes, is_utf8}
use Rattle.format.specs.Artifact as A
use Rattle.written.specs.Meaning.{Meaning}
use Rattle.written.specs.Put.{put}
use Rattle.written.specs.WellFormed.{WellString, WellList, WellFormed}

abbrev pub least : Meaning
least =
    record {
      header = record { caps = 0; id_low = 0; id_high = 0 };
      source = [];
      names = record { ends = []; blob = [] };
      constants = [];
      tokens = [];
      assigns = [];
      chains = [];
      switches = [];
      customs = [];
      main = record { entry = 0; end = 0; slots = 0 };
      functions = [];
      code = [];
      positions = [];
    }

pub least-bytes : put least ≡ (0x52 ∷ 0x47 ∷ 0x52 ∷ 0x4E ∷ 0x0B ∷ 0 ∷ 8 ∷ 8 ∷ []) ++ replicate 35 0
unfolding put shortest shortest_in
least-bytes = refl

empty-string : WellString []
unfolding is_utf8 passes
empty-string = record { counted = omega arith; utf8 = refl }

empty-list : {M : Type 0} (places : ℕ) (Ok : M → Type 0) → WellList places Ok []
empty-list places Ok = record { counted = omega arith; room = omega arith; each = tt }

pub least-well-formed : (P : A.Places) (mask : ℕ) → WellFormed P mask least
least-well-formed P mask =
    record {
      header = record { caps = record { below = omega arith }; id_low = record { below = omega arith }; id_high = record { below = omega arith } };
      source = empty-string;
      names = record { ends = empty-list _ _; rises = refl; last = refl; blob = empty-string };
      constants = record { counted = omega arith; room = omega arith; each = tt };
      tokens = empty-list _ _;
      assigns = empty-list _ _;
      chains = record { list = empty-list _ _; item_room = omega arith };
      switches = record { list = empty-list _ _; item_room = record { cases = omega arith; ranges = omega arith } };
      customs = record { list = empty-list _ _; item_room = omega arith };
      main = record { entry = record { below = omega arith }; end = record { below = omega arith }; slots = record { below = omega arith } };
      functions = record { list = empty-list _ _; item_room = omega arith };
      code = omega arith;
      positions = record { counted = omega arith; sound = inl refl };
    }
