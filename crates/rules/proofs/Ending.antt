-- The ends of the names, one by one: what is left to be judged comes to what was to be judged. Assumes nothing.
use Prim.Native.Nat.{ℕ, ◌+◌, ◌≤◌, ◌<◌}
use mathlib.Core.Path.{◌≡◌, sym, ◌∙◌, ap}
use mathlib.Core.Bool.{Bool, false, ◌&&◌}
use mathlib.Core.List.{List, ◌∷◌}
use lib.ListN.{length, get_or, drop}
use lib.Dec.{eqb}
use borrow.Author.Tests.{le-leb, lt-leb}
use Rattle.std.proofs.lemmas.List.{drop_more, drop_all}
use Rattle.format.specs.File.{rising, last_end}

-- the ends from one on, behind that before them
abbrev pub ends_hold : ℕ → List ℕ → ℕ → Bool
ends_hold before ends size = rising before ends && eqb (last_end before ends) size

module _ (ends : List ℕ) (size : ℕ) where
  pub record Ending (k before : ℕ) : Type 0 where
    pub same : ends_hold 0 ends size ≡ ends_hold before (drop k ends) size

  module _ {k before : ℕ} (s : Ending k before) (here : k < length ends) where
    this-end : ends_hold 0 ends size ≡ ends_hold before (get_or ends k 0 ∷ drop (k + 1) ends) size
    this-end = s.same ∙ ap (λ (rest : List ℕ). ends_hold before rest size) (drop_more ends k 0 here)

    pub ending-falls : get_or ends k 0 < before → false ≡ ends_hold 0 ends size
    ending-falls h = sym (this-end ∙ rw (lt-leb before (get_or ends k 0) h))

    pub ending-next : before ≤ get_or ends k 0 → Ending (k + 1) (get_or ends k 0)
    ending-next h = record { same = this-end ∙ rw (le-leb before (get_or ends k 0) h) }

  pub ending-end : {k before : ℕ} → Ending k before → length ends ≤ k → eqb before size ≡ ends_hold 0 ends size
  ending-end {k} {before} s past = sym (s.same ∙ ap (λ (rest : List ℕ). ends_hold before rest size) (drop_all k ends past))
