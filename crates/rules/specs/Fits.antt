-- All words that roots use, and that steps use beside their position, whatever the tag (9).
use Rattle.std.specs.Prelude.{ℕ, Bool, ◌&&◌, List}
use Rattle.rows.specs.Back.{word}
use Rattle.model.specs.Rules.{bits, sound_position}

abbrev pub root_fits : List ℕ → Bool
root_fits row = (bits 16 (word row 1) && bits 32 (word row 2)) && sound_position (word row 3) (word row 4)

abbrev pub step_fits : List ℕ → Bool
step_fits row =
    (bits 16 (word row 2) && sound_position (word row 9) (word row 10))
    && ((bits 32 (word row 3) && (bits 32 (word row 4) && bits 32 (word row 5))) && bits 8 (word row 6))
