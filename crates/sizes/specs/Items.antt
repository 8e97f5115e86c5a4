-- Constants, row by row: which words a tag uses, how long they are, and a run of constants with all that they own.
use Rattle.std.specs.Prelude.{ℕ, ◌+◌, ◌≤◌, Bool, ◌||◌, ◌≡◌, List, eqb, length, if◌then◌else◌}
use Rattle.grammar.specs.Combinators.{put_all}
use Rattle.grammar.specs.Number.{shortest, zigzag}
use Rattle.rows.specs.Back.{word, index, signed, kind_of}
use Rattle.rows.specs.Tree.{kind, grow}
use Rattle.written.specs.Put.{put_kind}
use Rattle.emit.specs.Constants.{rows_from, put_item}
use Rattle.emit.specs.Tags.{is_pointer, is_list}
use Rattle.sizes.specs.Counts.{Counts}
use Rattle.emit.specs.declared.constant.Behind.{Behind}

abbrev pub is_range : ℕ → Bool
is_range tag = eqb tag 0x0A || eqb tag 0x0B

abbrev pub has_text : ℕ → Bool
has_text tag = is_pointer tag || (eqb tag 0x06 || eqb tag 0x09)

abbrev pub where_used : Bool → ℕ → ℕ
where_used tells n = if tells then n else 0

-- a row's tag and numbers, by the tag: all of it but the text and the items
abbrev pub words_of : ℕ → List ℕ → ℕ
words_of tag row =
    1 + where_used (eqb tag 0x03 || is_range tag) (length (shortest (zigzag (signed (word row 1)))))
    + where_used (is_range tag) (length (shortest (zigzag (signed (word row 2)))))
    + where_used (eqb tag 0x05) (length (shortest (index (word row 1))))
    + where_used (eqb tag 0x04) 8
    + where_used (is_list tag) (length (shortest (word row 5)))
    + where_used (is_pointer tag) (length (put_kind (kind (kind_of (word row 1) (word row 2)))))

-- n constants are counted, and the next row is the one behind all that they own
pub record CountsItems (text : List ℕ) (keys : Bool) (levels n : ℕ) (t : List ℕ) (used from at : ℕ) (r : Behind) : Type 0 where
  pub few : r.next ≤ used
  pub rest : rows_from t used r.next ≡ (grow levels n (rows_from t used from)).rest
  pub counts : Counts (put_all (put_item text keys levels) (grow levels n (rows_from t used from)).trees) at r.place
