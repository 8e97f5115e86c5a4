-- How many words a row has.
use Rattle.std.specs.Prelude.{ℕ, Option, Some, None}
use mathlib.Core.Path.{◌≡◌, refl}
use lib.ListN.{length}
use Rattle.format.specs.declared.records.Input.{Input}
use Rattle.format.specs.Rows.{literal_words, input_row}

-- a row of an input has five words
pub input-wide : (i : Input) → length (input_row i) ≡ 5
input-wide i = rw (literal-wide i.literal)
  where
    literal-wide : (l : Option ℕ) → length (literal_words l) ≡ 2
    literal-wide None = refl
    literal-wide (Some index) = refl
