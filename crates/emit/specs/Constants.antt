-- Constants, row by row: what stands before a constant's items and behind them, and a run of constants with all that they own.
use Rattle.std.specs.Prelude.{ℕ, zero, suc, ◌*◌, ◌-◌, ◌≤◌, Bool, true, false, ◌≡◌, List, [], ◌∷◌, ◌++◌, map, length, drop, if◌then◌else◌}
use Rattle.grammar.specs.declared.Span.{Span}
use Rattle.grammar.specs.Combinators.{low_bytes, put_all}
use Rattle.grammar.specs.Number.{shortest, zigzag}
use Rattle.format.specs.Artifact as A
use Rattle.rows.specs.declared.constants.Constant.{Constant}
use Rattle.rows.specs.declared.constants.Keyed.{Keyed}
use Rattle.rows.specs.Back.{cut, records_of, keyed_of}
use Rattle.rows.specs.Tree.{items_of, kind, grow, over_texts}
use Rattle.written.specs.Put.{put_bytes, put_kind, put_constant}
use Rattle.model.specs.Lent.{clip, every}
use Rattle.model.specs.Rules.{exactly, known_constant, within, not_too_deep}
use Rattle.emit.specs.declared.constant.Behind.{Behind}
use Rattle.emit.specs.Puts.{Puts}

-- ── one constant ──

-- the tag and what stands before the items; of a list also their count
abbrev pub head_bytes : List ℕ → Constant → List ℕ
head_bytes text Constant.Unit = 0x00 ∷ []
head_bytes text (Constant.Boolean value) = (if value then 0x02 else 0x01) ∷ []
head_bytes text (Constant.Int n) = 0x03 ∷ shortest (zigzag n)
head_bytes text (Constant.Float bits) = 0x04 ∷ low_bytes 8 bits
head_bytes text (Constant.Char code) = 0x05 ∷ shortest code
head_bytes text (Constant.Str t) = 0x06 ∷ put_bytes (clip text t)
head_bytes text (Constant.Array items) = 0x07 ∷ shortest items
head_bytes text (Constant.Map items) = 0x08 ∷ shortest items
head_bytes text (Constant.Blob t) = 0x09 ∷ put_bytes (clip text t)
head_bytes text (Constant.Range from to) = 0x0A ∷ (shortest (zigzag from) ++ shortest (zigzag to))
head_bytes text (Constant.RangeInclusive from to) = 0x0B ∷ (shortest (zigzag from) ++ shortest (zigzag to))
head_bytes text (Constant.Pointer name items kind) = 0x0D ∷ (put_bytes (clip text name) ++ shortest items)

-- behind the items: a function pointer's kind
abbrev pub foot_bytes : Constant → List ℕ
foot_bytes (Constant.Pointer name items k) = put_kind (kind k)
foot_bytes Constant.Unit = []
foot_bytes (Constant.Boolean value) = []
foot_bytes (Constant.Int n) = []
foot_bytes (Constant.Float bits) = []
foot_bytes (Constant.Char code) = []
foot_bytes (Constant.Str t) = []
foot_bytes (Constant.Array items) = []
foot_bytes (Constant.Map items) = []
foot_bytes (Constant.Blob t) = []
foot_bytes (Constant.Range from to) = []
foot_bytes (Constant.RangeInclusive from to) = []

-- the items of a map have keys
abbrev pub keys_of : Constant → Bool
keys_of (Constant.Map items) = true
keys_of Constant.Unit = false
keys_of (Constant.Boolean value) = false
keys_of (Constant.Int n) = false
keys_of (Constant.Float bits) = false
keys_of (Constant.Char code) = false
keys_of (Constant.Str t) = false
keys_of (Constant.Array items) = false
keys_of (Constant.Blob t) = false
keys_of (Constant.Range from to) = false
keys_of (Constant.RangeInclusive from to) = false
keys_of (Constant.Pointer name items kind) = false

abbrev pub key_bytes : List ℕ → Bool → Span → List ℕ
key_bytes text keys key = if keys then put_bytes (clip text key) else []

-- ── n constants ──

-- n constants stand there, with all that they own, in the levels
abbrev pub Enough : (levels n : ℕ) → List Keyed → Type 0
Enough zero zero rows = Unit
Enough zero (suc n) rows = ⊥
Enough (suc levels) zero rows = Unit
Enough (suc levels) (suc n) [] = ⊥
Enough (suc levels) (suc n) (row ∷ rows) =
    Enough levels (items_of row.constant) rows × Enough (suc levels) n (grow levels (items_of row.constant) rows).rest

-- the rows used from a place of the table on
abbrev pub rows_from : List ℕ → ℕ → ℕ → List Keyed
rows_from t used from = records_of 8 keyed_of (used - from) (drop (from * 8) t)

-- a constant's bytes, behind those of its key where it has one
abbrev pub put_item : List ℕ → Bool → (levels : ℕ) → Span × A.Constant Span levels → List ℕ
put_item text keys levels tree = key_bytes text keys tree.0 ++ put_constant levels (over_texts (clip text) levels tree.1)

pub record ItemsStand (levels n : ℕ) (t : List ℕ) (used from : ℕ) : Type 0 where
  pub inside : used * 8 ≤ length t
  pub few : from ≤ used
  pub enough : Enough levels n (rows_from t used from)

-- n constants are put, and the next row is the one behind all that they own
pub record PutsItems (text : List ℕ) (keys : Bool) (levels n : ℕ) (t : List ℕ) (used from : ℕ) (entry : List ℕ) (at : ℕ) (exit : List ℕ) (r : Behind) : Type 0 where
  pub few : r.next ≤ used
  pub rest : rows_from t used r.next ≡ (grow levels n (rows_from t used from)).rest
  pub puts : Puts (put_all (put_item text keys levels) (grow levels n (rows_from t used from)).trees) entry at exit r.place

-- what rules 1, 5 and 6 have tested of the table of constants
pub record ConstantsFit (t : List ℕ) (used tops : ℕ) : Type 0 where
  pub counts : used * 8 ≤ length t
  pub exact : exactly (cut 8 used t) tops ≡ true
  pub known : every known_constant (cut 8 used t) ≡ true
  pub shallow : not_too_deep (within A.levels tops (cut 8 used t)) ≡ true

-- the top constants of a table, over their texts' bytes
abbrev pub constants_of : List ℕ → List ℕ → ℕ → ℕ → List (A.Constant (List ℕ) A.levels)
constants_of text t used tops = map (λ tree. over_texts (clip text) A.levels tree.1) (grow A.levels tops (records_of 8 keyed_of used t)).trees
