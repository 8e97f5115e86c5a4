-- Every text that a read gives stands in the bytes that were read, and every string is UTF-8.
use Rattle.std.proofs.Common.{if◌then◌else◌}
use Prim.Native.Nat.{ℕ, zero, suc, ◌+◌, ◌≤◌}
use mathlib.Core.Path.{◌≡◌, refl, sym}
use mathlib.Core.Bool.{Bool, true, false}
use mathlib.Core.List.{List}
use lib.ListN.{length}
use borrow.Author.Tests.{leb-true}
use Rattle.refusal.specs.declared.Refusal.{Refusal}
use Rattle.grammar.specs.declared.Cursor.{Cursor}
use Rattle.grammar.specs.Outcome.{start, advanced, got, refused, Parser}
use Rattle.grammar.specs.Combinators.{enough, taking, Text, text_at, text, many, Each}
use Rattle.grammar.proofs.Outcome.{got-ne-refused, got-value}
use Rattle.utf8.specs.Check.{is_utf8}
use Rattle.tables.specs.Table.{records}
use Rattle.format.specs.Artifact as A
use Rattle.format.specs.File as definition
use Rattle.leaves.proofs.Leaves.{Leaves, leaves-pure, leaves-refuse, leaves-then, leaves-bind, leaves-check, leaves-tag, leaves-unknown, leaves-each}
use Rattle.leaves.proofs.Accepted.{sections-got}
use Rattle.model.specs.Lent.{clip}

-- a text has the bytes of its span, which lies in them
pub record Stands (s : List ℕ) (t : Text) : Type 0 where
  pub is : t.bytes ≡ clip s t.span
  pub lies : t.span.start + t.span.size ≤ length s

pub record Spelled (s : List ℕ) (t : Text) : Type 0 where
  pub stands : Stands s t
  pub utf8 : is_utf8 t.bytes ≡ true

-- a constant and all its items: texts stand, strings and keys are UTF-8, chars are scalars
abbrev pub Told : List ℕ → (levels : ℕ) → A.Constant Text levels → Type 0
Told s zero c = Unit
Told s (suc levels) A.unit = Unit
Told s (suc levels) (A.boolean b) = Unit
Told s (suc levels) (A.int n) = Unit
Told s (suc levels) (A.float bits) = Unit
Told s (suc levels) (A.char code) = definition.scalar code ≡ true
Told s (suc levels) (A.str t) = Spelled s t
Told s (suc levels) (A.array items) = Each (Told s levels) items
Told s (suc levels) (A.map entries) = Each (λ entry. Spelled s entry.0 × Told s levels entry.1) entries
Told s (suc levels) (A.blob t) = Stands s t
Told s (suc levels) (A.range from to) = Unit
Told s (suc levels) (A.range_inclusive from to) = Unit
Told s (suc levels) (A.pointer name curried kind) = Spelled s name × Each (Told s levels) curried

pub record ToldAssign (s : List ℕ) (a : A.Assign Text) : Type 0 where
  pub op_assign : Spelled s a.op_assign
  pub op : Spelled s a.op

pub record ToldArtifact (s : List ℕ) (a : A.Artifact) : Type 0 where
  pub source : Spelled s a.source
  pub blob : Spelled s a.names.blob
  pub constants : Each (Told s A.levels) a.constants
  pub tokens : Each (Spelled s) a.tokens
  pub assigns : Each (ToldAssign s) a.assigns
  pub code : Stands s a.code
  pub positions : Stands s a.positions

module _ {s : List ℕ} where
  leaves-text : (n : ℕ) → Leaves s (text n) (Stands s)
  unfolding text taking
  leaves-text n = record { always = λ c v next e. go c v next (enough n s c) refl e }
    where
      go : (c : Cursor) (v : Text) (next : Cursor) (t : Bool) → enough n s c ≡ t →
          (if t then got (text_at s (record { start = c.at; size = n })) (advanced c n) else refused Refusal.Truncated) ≡ got v next → Stands s v
      go c v next true h e = rw (← got-value e) (record { is = refl; lies = leb-true _ _ h })
      go c v next false h e = absurd (got-ne-refused (sym e))

  leaves-bytes : Leaves s definition.bytes (Stands s)
  unfolding definition.bytes
  leaves-bytes = leaves-bind _ _ leaves-text

  leaves-string : Leaves s definition.string (Spelled s)
  unfolding definition.string
  leaves-string = leaves-then _ leaves-bytes (λ t h. leaves-check _ _ _ (λ e. leaves-pure _ (record { stands = h; utf8 = e })))

  leaves-blob : (places : ℕ) → Leaves s (definition.names places) (λ ns. Spelled s ns.blob)
  unfolding definition.names
  leaves-blob places =
      leaves-bind _ _ (λ n. leaves-bind _ _ (λ _. leaves-bind _ _ (λ ends. leaves-then _ leaves-bytes (λ all h.
      leaves-bind _ _ (λ _. leaves-bind _ _ (λ _. leaves-check _ _ _ (λ e. leaves-pure _ (record { stands = h; utf8 = e }))))))))

  -- a constant of one level more, of items and entries one level deeper
  module _ (places levels : ℕ) (deeper : (used : ℕ) → Leaves s (definition.constant places levels used) (Told s levels)) where
    leaves-items : (n used : ℕ) → Leaves s (many (A.behind Text levels) (definition.constant places levels) n used) (Each (Told s levels))
    leaves-items n used = leaves-each _ deeper n used

    leaves-one : (used : ℕ) → Leaves s (definition.constant places (suc levels) used) (Told s (suc levels))
    unfolding definition.constant
    leaves-one used =
        leaves-bind _ _ (λ _. leaves-bind _ _ (λ tag.
        leaves-tag _ _ _ (leaves-pure _ tt)
        (leaves-tag _ _ _ (leaves-pure _ tt)
        (leaves-tag _ _ _ (leaves-pure _ tt)
        (leaves-tag _ _ _ (leaves-bind _ _ (λ n. leaves-pure _ tt))
        (leaves-tag _ _ _ (leaves-bind _ _ (λ bits. leaves-pure _ tt))
        (leaves-tag _ _ _ (leaves-bind _ _ (λ code. leaves-check _ _ _ (λ e. leaves-pure _ e)))
        (leaves-tag _ _ _ (leaves-then _ leaves-string (λ t h. leaves-pure _ h))
        (leaves-tag _ _ _ (leaves-bind _ _ (λ n. leaves-then _ (leaves-items n (used + 1)) (λ items h. leaves-pure _ h)))
        (leaves-tag _ _ _ (leaves-bind _ _ (λ n. leaves-then _ (leaves-each _ (λ used. leaves-then _ leaves-string (λ key k. leaves-then _ (deeper used) (λ value h.
        leaves-pure _ (k, h)))) n (used + 1)) (λ entries h. leaves-pure _ h)))
        (leaves-tag _ _ _ (leaves-then _ leaves-bytes (λ t h. leaves-pure _ h))
        (leaves-tag _ _ _ (leaves-bind _ _ (λ from. leaves-bind _ _ (λ to. leaves-pure _ tt)))
        (leaves-tag _ _ _ (leaves-bind _ _ (λ from. leaves-bind _ _ (λ to. leaves-pure _ tt)))
        (leaves-tag _ _ _ (leaves-then _ leaves-string (λ name k. leaves-bind _ _ (λ n. leaves-then _ (leaves-items n (used + 1)) (λ curried h.
        leaves-bind _ _ (λ kind. leaves-pure _ (k, h))))))
        (leaves-unknown _ _)))))))))))))))

  leaves-constant : (places levels used : ℕ) → Leaves s (definition.constant places levels used) (Told s levels)
  unfolding definition.constant
  leaves-constant places zero used = leaves-refuse _
  leaves-constant places (suc levels) used = leaves-one places levels (leaves-constant places levels) used

  leaves-constants : (places : ℕ) → Leaves s (definition.constants places) (Each (Told s A.levels))
  unfolding definition.constants
  leaves-constants places = leaves-bind _ _ (λ n. leaves-items places A.levels (leaves-constant places A.levels) n 0)

  leaves-list : {X : Type 0} {p : Parser X} {Ok : X → Type 0} (table places : ℕ) → Leaves s p Ok → Leaves s (definition.list table places p 0) (Each Ok)
  unfolding definition.list records
  leaves-list table places one = leaves-bind _ _ (λ n. leaves-each _ (λ used. leaves-bind _ _ (λ _. one)) n 0)

  leaves-assign : Leaves s definition.assign (ToldAssign s)
  unfolding definition.assign
  leaves-assign =
      leaves-then _ leaves-string (λ op_assign a. leaves-bind _ _ (λ op_assign_name. leaves-then _ leaves-string (λ op b. leaves-bind _ _ (λ op_name.
      leaves-pure _ (record { op_assign = a; op = b })))))

  leaves-positions : Leaves s definition.positions (Stands s)
  unfolding definition.positions
  leaves-positions = leaves-then _ leaves-bytes (λ t h. leaves-bind _ _ (λ _. leaves-pure _ h))

  leaves-artifact : (P : A.Places) (mask : ℕ) → Leaves s (definition.artifact P mask) (ToldArtifact s)
  unfolding definition.artifact definition.tokens definition.assigns
  leaves-artifact P mask =
      leaves-bind _ _ (λ header. leaves-then _ leaves-string (λ source a. leaves-then _ (leaves-blob P.names) (λ ns b.
      leaves-then _ (leaves-constants P.constants) (λ cs c.
      leaves-then _ (leaves-list _ _ leaves-string) (λ ts d.
      leaves-then _ (leaves-list _ _ leaves-assign) (λ os e.
      leaves-bind _ _ (λ ls. leaves-bind _ _ (λ ws. leaves-bind _ _ (λ us. leaves-bind _ _ (λ main. leaves-bind _ _ (λ fs.
      leaves-then _ leaves-bytes (λ code f. leaves-then _ leaves-positions (λ ps g.
      leaves-pure _ (record { source = a; blob = b; constants = c; tokens = d; assigns = e; code = f; positions = g }))))))))))))))

pub read_told : (P : A.Places) (mask : ℕ) (s : List ℕ) (a : A.Artifact) (last : Cursor) → definition.read P mask s ≡ got a last → ToldArtifact s a
read_told P mask s a last read = (leaves-artifact P mask).always start a last (sections-got P mask s a last read)
