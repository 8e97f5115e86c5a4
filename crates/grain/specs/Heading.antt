-- What stands outside the tables, from the 32 words in which `grain_read` tells it, and what C is told of writing.
use Rattle.std.specs.Prelude.{ℕ, Bool, not, ◌&&◌, ◌≡◌, List, eqb}
use Rattle.refusal.specs.declared.Row.{Row}
use Rattle.refusal.specs.Numbers.{row_of, row_is}
use Rattle.format.specs.declared.answer.Artifact.{Artifact}
use Rattle.grain.specs.Positions.{encoded_row}
use Rattle.rows.specs.Back.{word, index, chunk_of}
use Rattle.refusal.specs.declared.Refusal.{Refusal}
use Rattle.std.specs.Prelude.{Result, Ok, Err}
use Rattle.model.specs.Lent.{Lent}
use Rattle.model.specs.Rules.{bits, sound_chunk, span_at}
use Rattle.model.specs.Written.{lowest_broken, bytes_of, answered, left}
use Rattle.grain.specs.Positions.{values_of}

-- 3 caps; 4 and 5 the debug id; 6 to 13 four spans; 14 to 16 the main chunk; 17 the top constants; 18 to 30 the rows used.
-- 0 to 2 and 31 are not looked at
abbrev pub outside_of : List ℕ → Artifact
outside_of words =
    record {
      header = record { caps = index (word words 3); low = word words 4; high = word words 5 };
      source = span_at 6 words;
      blob = span_at 8 words;
      code = span_at 10 words;
      positions = span_at 12 words;
      main = chunk_of (word words 14) (word words 15) (word words 16);
      tops = word words 17;
      used = record {
        names = word words 18;
        constants = word words 19;
        tokens = word words 20;
        assigns = word words 21;
        chains = word words 22;
        steps = word words 23;
        switches = word words 24;
        cases = word words 25;
        ranges = word words 26;
        customs = word words 27;
        inputs = word words 28;
        functions = word words 29;
        parameters = word words 30;
      };
    }

-- rule 9 of the words: caps, and the main chunk, fit their kinds
abbrev pub heading_fits : List ℕ → Bool
heading_fits words = bits 32 (word words 3) && sound_chunk (word words 14) (word words 15) (word words 16)

-- the bytes written are the first value
abbrev pub written_row : Result ℕ Refusal → Row
written_row = encoded_row

-- strip 0 keeps
abbrev pub stripped : ℕ → Bool
stripped strip = not (eqb strip 0)

-- the result, both values and the final output are those of the definition
pub record Tells (mask : ℕ) (strip : ℕ) (m : Lent) (entry exit pair : List ℕ) (result : ℕ) : Type 0 where
  pub number : result ≡ (written_row (answered (lowest_broken mask (stripped strip) m) (bytes_of (stripped strip) m) entry)).number
  pub values : pair ≡ values_of (written_row (answered (lowest_broken mask (stripped strip) m) (bytes_of (stripped strip) m) entry))
  pub output : exit ≡ left (lowest_broken mask (stripped strip) m) (bytes_of (stripped strip) m) entry
