-- A constant's bytes: its head, its items' bytes and what stands behind them make those of its tree.
use Prim.Native.Nat.{ℕ, zero, suc}
use mathlib.Core.Bool.{Bool, true, false}
use mathlib.Core.Path.{◌≡◌, refl, ◌∙◌, ap}
use mathlib.Core.List.{List, [], ◌∷◌, ◌++◌, append_assoc, append-nil, map}
use native.Mathlib.Omega.{arith}
use lib.ListN.{length}
use Rattle.grammar.specs.declared.Span.{Span}
use Rattle.grammar.specs.Combinators.{put_all}
use Rattle.grammar.specs.Number.{shortest}
use Rattle.format.specs.Artifact as A
use Rattle.rows.specs.declared.constants.Constant.{Constant}
use Rattle.rows.specs.declared.constants.Keyed.{Keyed}
use Rattle.rows.specs.Tree.{items_of, kind, value, node, grow, over_texts}
use Rattle.written.specs.Put.{put_bytes, put_list, put_kind, put_constant}
use Rattle.model.specs.Lent.{clip}
use Rattle.emit.specs.Constants.{head_bytes, foot_bytes, keys_of, key_bytes, Enough, put_item}
use Rattle.emit.proofs.Listing.{list-map}

-- as many constants grow as stand there
pub enough-length : (levels n : ℕ) (rows : List Keyed) → Enough levels n rows → length (grow levels n rows).trees ≡ n
enough-length zero zero rows h = refl
enough-length zero (suc n) rows h = absurd h
enough-length (suc levels) zero rows h = refl
enough-length (suc levels) (suc n) [] h = absurd h
enough-length (suc levels) (suc n) (row ∷ rows) h = ap suc (enough-length (suc levels) n (grow levels (items_of row.constant) rows).rest h.1)

-- a constant without items
none : {X : Type 0} (put : X → List ℕ) (a : List ℕ) (trees : List X) → length trees ≡ 0 → a ++ (put_all put trees ++ []) ≡ a
none put a [] h = append-nil a
none put a (x ∷ xs) h = absurd (omega arith)

regroup : (a b c d : List ℕ) → (a ++ b) ++ (c ++ d) ≡ a ++ ((b ++ c) ++ d)
regroup a b c d = simp append_assoc

module _ (text : List ℕ) (levels : ℕ) where
  abbrev Tree : Type 0
  Tree = Span × A.Constant Span levels

  abbrev bytes : List Tree → List (A.Constant (List ℕ) levels)
  bytes trees = map (over_texts (clip text) levels) (map value trees)

  -- items without keys, and behind their count
  plain-list : (n : ℕ) (trees : List Tree) → length trees ≡ n → shortest n ++ put_all (put_item text false levels) trees ≡ put_list (put_constant levels) (bytes trees)
  plain-list n trees h =
      rw (← h)
      (list-map (λ c. put_constant levels (over_texts (clip text) levels c)) value trees ∙ list-map (put_constant levels) (over_texts (clip text) levels) (map value trees))

  -- a map's entries
  abbrev entries : List Tree → List (List ℕ × A.Constant (List ℕ) levels)
  entries trees = map (λ entry. (clip text entry.0, over_texts (clip text) levels entry.1)) trees

  abbrev put_entry : List ℕ × A.Constant (List ℕ) levels → List ℕ
  put_entry entry = put_bytes entry.0 ++ put_constant levels entry.1

  keyed-list : (n : ℕ) (trees : List Tree) → length trees ≡ n → shortest n ++ put_all (put_item text true levels) trees ≡ put_list put_entry (entries trees)
  keyed-list n trees h = rw (← h) (list-map put_entry (λ entry. (clip text entry.0, over_texts (clip text) levels entry.1)) trees)

  abbrev made : Constant → List Tree → List ℕ
  made c trees = head_bytes text c ++ (put_all (put_item text (keys_of c) levels) trees ++ foot_bytes c)

  pub node-bytes : (c : Constant) (trees : List Tree) → length trees ≡ items_of c →
      made c trees ≡ put_constant (suc levels) (over_texts (clip text) (suc levels) (node c trees))
  node-bytes Constant.Unit trees h = none _ (head_bytes text Constant.Unit) trees h
  node-bytes (Constant.Boolean false) trees h = none _ (head_bytes text (Constant.Boolean false)) trees h
  node-bytes (Constant.Boolean true) trees h = none _ (head_bytes text (Constant.Boolean true)) trees h
  node-bytes (Constant.Int n) trees h = none _ (head_bytes text (Constant.Int n)) trees h
  node-bytes (Constant.Float bits) trees h = none _ (head_bytes text (Constant.Float bits)) trees h
  node-bytes (Constant.Char code) trees h = none _ (head_bytes text (Constant.Char code)) trees h
  node-bytes (Constant.Str t) trees h = none _ (head_bytes text (Constant.Str t)) trees h
  node-bytes (Constant.Array n) trees h =
      ap (λ (l : List ℕ). 0x07 ∷ l) (ap (λ (l : List ℕ). shortest n ++ l) (append-nil _) ∙ plain-list n trees h)
  node-bytes (Constant.Map n) trees h =
      ap (λ (l : List ℕ). 0x08 ∷ l) (ap (λ (l : List ℕ). shortest n ++ l) (append-nil _) ∙ keyed-list n trees h)
  node-bytes (Constant.Blob t) trees h = none _ (head_bytes text (Constant.Blob t)) trees h
  node-bytes (Constant.Range from to) trees h = none _ (head_bytes text (Constant.Range from to)) trees h
  node-bytes (Constant.RangeInclusive from to) trees h = none _ (head_bytes text (Constant.RangeInclusive from to)) trees h
  node-bytes (Constant.Pointer name n k) trees h =
      ap (λ (l : List ℕ). 0x0D ∷ l)
      (regroup (put_bytes (clip text name)) (shortest n) (put_all (put_item text false levels) trees) (put_kind (kind k))
      ∙ ap (λ (l : List ℕ). put_bytes (clip text name) ++ (l ++ put_kind (kind k))) (plain-list n trees h))

  -- behind its key, where it has one
  pub item-bytes : (keys : Bool) (key : Span) (c : Constant) (trees : List Tree) → length trees ≡ items_of c →
      key_bytes text keys key ++ made c trees ≡ put_item text keys (suc levels) (key, node c trees)
  item-bytes keys key c trees h = ap (λ (l : List ℕ). key_bytes text keys key ++ l) (node-bytes c trees h)

  -- the top constants
  pub tops-list : (n : ℕ) (trees : List Tree) → length trees ≡ n →
      shortest n ++ put_all (put_item text false levels) trees ≡ put_list (put_constant levels) (map (λ tree. over_texts (clip text) levels tree.1) trees)
  tops-list n trees h = rw (← h) (list-map (put_constant levels) (λ tree. over_texts (clip text) levels tree.1) trees)
