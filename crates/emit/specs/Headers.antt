-- The header as the answer of a read keeps it, and what is the same in all.
use Rattle.std.specs.Prelude.{ℕ, List, [], ◌∷◌, ◌++◌}
use Rattle.grammar.specs.Combinators.{low_bytes}
use Rattle.format.specs.Artifact as A
use Rattle.format.specs.File.{magic}
use Rattle.format.specs.declared.answer.Header.{Header}

abbrev pub header_of : Header → A.Header
header_of h = record { caps = h.caps; id_low = h.low; id_high = h.high }

-- magic, version and both widths
abbrev pub header_front : List ℕ
header_front = magic ++ (low_bytes 2 11 ++ (8 ∷ 8 ∷ []))
