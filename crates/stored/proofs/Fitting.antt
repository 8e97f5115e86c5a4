-- What a read gives of bytes fits.
use Rattle.std.specs.Prelude.{Option, Some, None}
use Rattle.std.proofs.Common.{if◌then◌else◌}
use Prim.Native.Nat.{ℕ, zero, suc, ◌+◌, ◌-◌, ◌^◌, ◌≤◌, ◌<◌}
use mathlib.Core.Path.{◌≡◌, refl, sym}
use mathlib.Core.Bool.{Bool, true, false}
use mathlib.Core.List.{List}
use native.Mathlib.Omega.{arith}
use lib.ListN.{length, get_or}
use lib.Dec.{eqb}
use lib.IntN.{ℤ, pos, negsuc}
use mir.Syntax.{w64}
use mir.Val.{SFits}
use borrow.Author.Tests.{eqb-false, leb-true}
use Rattle.refusal.specs.declared.Refusal.{Refusal}
use Rattle.grammar.specs.declared.Cursor.{Cursor}
use Rattle.grammar.specs.Outcome.{advanced, got, refused, Parser}
use Rattle.grammar.specs.Combinators.{enough, taking, byte, Text, many, Each}
use Rattle.grammar.specs.Number.{number, signed, zigzag, unzigzag}
use Rattle.grammar.proofs.Outcome.{got-ne-refused, got-value}
use Rattle.grammar.proofs.Number.{number-below, zigzag-unzigzag}
use Rattle.tables.specs.Table.{Used, records, nested}
use Rattle.format.specs.declared.records.Position.{Position}
use Rattle.format.specs.Artifact as A
use Rattle.format.specs.File as definition
use Rattle.leaves.proofs.Leaves.{Leaves, leaves-pure, leaves-refuse, leaves-then, leaves-bind, leaves-check, leaves-tag, leaves-unknown, leaves-each}
use Rattle.rows.specs.Fits.{FitsBits, FitsName, FitsPosition, FitsChunk, FitsConstant, FitsAssign, FitsRoot, FitsTail, FitsChain, FitsStep, FitsSwitch, FitsCase, FitsRange, FitsSite, FitsLiteral, FitsInput, FitsThis, FitsFunction, Throughout, ThroughoutCases, FitsArtifact}
use Rattle.rows.specs.Given.{Bytes}

-- ── by a test ──

placed-fits : (line column : ℕ) → FitsBits 16 line → FitsBits 16 column → FitsPosition (definition.placed line column)
placed-fits line column l k = go (eqb line 0) refl
  where
    go : (t : Bool) → eqb line 0 ≡ t → FitsPosition (if t then None else Some (record { line = line; column = column }))
    go true e = tt
    go false e = let h : line ≡ 0 → ⊥ = eqb-false _ _ e in (omega arith, (l, k))

literal-fits : (n : ℕ) → FitsBits 32 n → FitsLiteral (if eqb n 0xFFFFFFFF then None else Some n)
literal-fits n fits = go (eqb n 0xFFFFFFFF) refl
  where
    go : (t : Bool) → eqb n 0xFFFFFFFF ≡ t → FitsLiteral (if t then None else Some n)
    go true e = tt
    go false e = let h : n ≡ 0xFFFFFFFF → ⊥ = eqb-false _ _ e in omega (arith, fits.below)

this-fits : (n : ℕ) → n ≤ 2 ^ 32 → FitsThis (if eqb n 0 then None else Some (n - 1))
this-fits n fits = go (eqb n 0) refl
  where
    go : (t : Bool) → eqb n 0 ≡ t → FitsThis (if t then None else Some (n - 1))
    go true e = tt
    go false e = let h : n ≡ 0 → ⊥ = eqb-false _ _ e in record { below = omega arith }

-- a signed number whose zigzag form has 64 bits
signed-fits : (z : ℤ) → zigzag z < 2 ^ 64 → SFits w64 z
unfolding zigzag
signed-fits (pos n) h = record { sfits = omega arith }
signed-fits (negsuc n) h = record { sfits = omega arith }

-- ── what is read of any bytes ──

module _ {s : List ℕ} where
  pub leaves-number : (bits : ℕ) → Leaves s (number bits) (FitsBits bits)
  leaves-number bits = record { always = λ c v next e. record { below = number-below bits s c v next e } }

  pub leaves_signed : Leaves s signed (SFits w64)
  unfolding signed
  leaves_signed = leaves-then _ (leaves-number 64) (λ u h. leaves-pure _ (signed-fits (unzigzag u) (rw (zigzag-unzigzag u) h.below)))

  pub leaves-name : Leaves s definition.name_index FitsName
  unfolding definition.name_index
  leaves-name = leaves-then _ (leaves-number 32) (λ n h. leaves-pure _ h)

  leaves-position : Leaves s definition.position FitsPosition
  unfolding definition.position
  leaves-position = leaves-then _ (leaves-number 16) (λ line l. leaves-then _ (leaves-number 16) (λ column k. leaves-pure _ (placed-fits line column l k)))

  pub leaves-chunk : Leaves s definition.chunk FitsChunk
  unfolding definition.chunk
  leaves-chunk =
      leaves-then _ (leaves-number 32) (λ entry a. leaves-then _ (leaves-number 32) (λ end b. leaves-then _ (leaves-number 16) (λ slots c.
      leaves-pure _ (record { entry = a; end = b; slots = c }))))

  -- lists, whatever tables their records and items stand in
  leaves-list : {X : Type 0} {p : Parser X} {Ok : X → Type 0} (table places used : ℕ) → Leaves s p Ok → Leaves s (definition.list table places p used) (Each Ok)
  unfolding definition.list records
  leaves-list table places used one = leaves-bind _ _ (λ n. leaves-each _ (λ used. leaves-bind _ _ (λ _. one)) n used)

  leaves-nested : {X S : Type 0} (next : S → X → S) (table places : ℕ) {p : S → Parser X} {Ok : X → Type 0} (n : ℕ) (used : Used S) →
      ((inner : S) → Leaves s (p inner) Ok) → Leaves s (nested next table places p n used) (Each Ok)
  unfolding nested
  leaves-nested next table places n used one = leaves-each _ (λ used. leaves-bind _ _ (λ _. one used.inner)) n used

  -- ── names and constants ──

  leaves-ends : (places : ℕ) → Leaves s (definition.names places) (λ ns. Each (FitsBits 32) ns.ends)
  unfolding definition.names records
  leaves-ends places =
      leaves-bind _ _ (λ n. leaves-bind _ _ (λ _. leaves-then _ (leaves-each _ (λ used. leaves-bind _ _ (λ _. leaves-number 32)) n 0) (λ ends a.
      leaves-bind _ _ (λ all. leaves-bind _ _ (λ _. leaves-bind _ _ (λ _. leaves-bind _ _ (λ _. leaves-pure _ a)))))))

  -- a constant of one level more, of items and entries one level deeper
  module _ (places levels : ℕ) (deeper : (used : ℕ) → Leaves s (definition.constant places levels used) (FitsConstant Text levels)) where
    leaves-items : (n used : ℕ) → Leaves s (many (A.behind Text levels) (definition.constant places levels) n used) (Each (FitsConstant Text levels))
    leaves-items n used = leaves-each _ deeper n used

    leaves-one : (used : ℕ) → Leaves s (definition.constant places (suc levels) used) (FitsConstant Text (suc levels))
    unfolding definition.constant
    leaves-one used =
        leaves-bind _ _ (λ _. leaves-bind _ _ (λ tag.
        leaves-tag _ _ _ (leaves-pure _ tt)
        (leaves-tag _ _ _ (leaves-pure _ tt)
        (leaves-tag _ _ _ (leaves-pure _ tt)
        (leaves-tag _ _ _ (leaves-then _ leaves_signed (λ n h. leaves-pure _ h))
        (leaves-tag _ _ _ (leaves-bind _ _ (λ bits. leaves-pure _ tt))
        (leaves-tag _ _ _ (leaves-then _ (leaves-number 32) (λ code h. leaves-bind _ _ (λ _. leaves-pure _ h)))
        (leaves-tag _ _ _ (leaves-bind _ _ (λ t. leaves-pure _ tt))
        (leaves-tag _ _ _ (leaves-bind _ _ (λ n. leaves-then _ (leaves-items n (used + 1)) (λ items h. leaves-pure _ h)))
        (leaves-tag _ _ _ (leaves-bind _ _ (λ n. leaves-then _ (leaves-each _ (λ used. leaves-bind _ _ (λ key. leaves-then _ (deeper used) (λ value h.
        leaves-pure _ h))) n (used + 1)) (λ entries h. leaves-pure _ h)))
        (leaves-tag _ _ _ (leaves-bind _ _ (λ t. leaves-pure _ tt))
        (leaves-tag _ _ _ (leaves-then _ leaves_signed (λ from a. leaves-then _ leaves_signed (λ to b. leaves-pure _ (a, b))))
        (leaves-tag _ _ _ (leaves-then _ leaves_signed (λ from a. leaves-then _ leaves_signed (λ to b. leaves-pure _ (a, b))))
        (leaves-tag _ _ _ (leaves-bind _ _ (λ name. leaves-bind _ _ (λ n. leaves-then _ (leaves-items n (used + 1)) (λ curried h.
        leaves-bind _ _ (λ k. leaves-pure _ h)))))
        (leaves-unknown _ _)))))))))))))))

  leaves-constant : (places levels used : ℕ) → Leaves s (definition.constant places levels used) (FitsConstant Text levels)
  unfolding definition.constant
  leaves-constant places zero used = leaves-refuse _
  leaves-constant places (suc levels) used = leaves-one places levels (leaves-constant places levels) used

  leaves-constants : (places : ℕ) → Leaves s (definition.constants places) (Each (FitsConstant Text A.levels))
  unfolding definition.constants
  leaves-constants places = leaves-bind _ _ (λ n. leaves-items places A.levels (leaves-constant places A.levels) n 0)

  -- ── records ──

  pub leaves-assign : Leaves s definition.assign FitsAssign
  unfolding definition.assign
  leaves-assign =
      leaves-bind _ _ (λ op_assign. leaves-then _ leaves-name (λ op_assign_name a. leaves-bind _ _ (λ op. leaves-then _ leaves-name (λ op_name b.
      leaves-pure _ (record { op_assign_name = a; op_name = b })))))

  pub leaves-root : Leaves s definition.root FitsRoot
  unfolding definition.root
  leaves-root =
      leaves-bind _ _ (λ tag.
      leaves-tag _ _ _ (leaves-then _ (leaves-number 16) (λ slot a. leaves-then _ leaves-name (λ name b. leaves-pure _ (a, b))))
      (leaves-tag _ _ _ (leaves-pure _ tt)
      (leaves-tag _ _ _ (leaves-then _ leaves-name (λ name a. leaves-then _ leaves-position (λ at b. leaves-pure _ (a, b))))
      (leaves-tag _ _ _ (leaves-then _ leaves-position (λ at a. leaves-pure _ a))
      (leaves-unknown _ _)))))

  pub leaves-tail : Leaves s definition.tail FitsTail
  unfolding definition.tail
  leaves-tail =
      leaves-bind _ _ (λ tag.
      leaves-tag _ _ _ (leaves-pure _ tt)
      (leaves-tag _ _ _ (leaves-pure _ tt)
      (leaves-tag _ _ _ (leaves-then _ (leaves-number 32) (λ op a. leaves-pure _ a))
      (leaves-unknown _ _))))

  leaves-case : (tops : ℕ) → Leaves s (definition.case tops) FitsCase
  unfolding definition.case
  leaves-case tops =
      leaves-then _ (leaves-number 32) (λ blocks a. leaves-bind _ _ (λ at. leaves-then _ (leaves-number 32) (λ k b. leaves-bind _ _ (λ _.
      leaves-pure _ (record { blocks = a; constant = b })))))

  pub leaves-range : Leaves s definition.case_range FitsRange
  unfolding definition.case_range
  leaves-range =
      leaves-then _ leaves_signed (λ from a. leaves-then _ leaves_signed (λ to b. leaves-bind _ _ (λ inclusive. leaves-then _ (leaves-number 32) (λ target c.
      leaves-pure _ (record { from = a; to = b; target = c })))))

  leaves-switches : (places case_places range_places tops : ℕ) →
      Leaves s (definition.switches places case_places range_places tops) (Each (ThroughoutCases FitsSwitch FitsCase FitsRange))
  unfolding definition.switches definition.switch
  leaves-switches places case_places range_places tops =
      leaves-bind _ _ (λ n. leaves-nested _ _ _ n _ (λ used.
      leaves-then _ (leaves-list _ _ _ (leaves-case tops)) (λ cases a. leaves-then _ (leaves-list _ _ _ leaves-range) (λ ranges b.
      leaves-then _ (leaves-number 32) (λ default c. leaves-pure _ (record { whole = c; cases = a; ranges = b }))))))

  pub leaves-input : Leaves s definition.input FitsInput
  unfolding definition.input
  leaves-input =
      leaves-then _ leaves-chunk (λ c a. leaves-then _ (leaves-number 32) (λ literal b.
      leaves-pure _ (record { chunk = a; literal = literal-fits literal b })))

  leaves-customs : (places input_places : ℕ) → Leaves s (definition.customs places input_places) (Each (Throughout FitsSite FitsInput))
  unfolding definition.customs definition.site
  leaves-customs places input_places =
      leaves-bind _ _ (λ n. leaves-nested _ _ _ n _ (λ used.
      leaves-then _ (leaves-number 32) (λ key a. leaves-then _ (leaves-number 32) (λ state b. leaves-then _ (leaves-list _ _ _ leaves-input) (λ inputs c.
      leaves-pure _ (record { whole = record { key = a; state = b }; items = c }))))))

  pub leaves-this : Leaves s definition.this_type FitsThis
  unfolding definition.this_type
  leaves-this = leaves-bind _ _ (λ n. leaves-check _ _ _ (λ e. leaves-pure _ (this-fits n (leb-true _ _ e))))

  leaves-functions : (places parameter_places : ℕ) → Leaves s (definition.functions places parameter_places) (Each (Throughout FitsFunction FitsName))
  unfolding definition.functions definition.function
  leaves-functions places parameter_places =
      leaves-bind _ _ (λ n. leaves-nested _ _ _ n _ (λ used.
      leaves-then _ leaves-name (λ name a. leaves-bind _ _ (λ access. leaves-then _ leaves-this (λ this b.
      leaves-then _ (leaves-list _ _ _ leaves-name) (λ parameters c. leaves-then _ leaves-chunk (λ chunk d.
      leaves-pure _ (record { whole = record { name = a; this = b; chunk = d }; items = c }))))))))

-- ── what is read of bytes: flags and argument counts are bytes as they stand ──

module _ {s : List ℕ} (bytes : Bytes s) where
  pub leaves-byte : Leaves s byte (FitsBits 8)
  unfolding byte taking
  leaves-byte = record { always = λ c v next e. go c v next (enough 1 s c) e }
    where
      go : (c : Cursor) (v : ℕ) (next : Cursor) (t : Bool) → (if t then got (get_or s c.at 0) (advanced c 1) else refused Refusal.Truncated) ≡ got v next →
          FitsBits 8 v
      go c v next true e = record { below = rw (← got-value e) (bytes c.at) }
      go c v next false e = absurd (got-ne-refused (sym e))

  pub leaves-step : (mask : ℕ) → Leaves s (definition.step mask) FitsStep
  unfolding definition.step
  leaves-step mask =
      leaves-bind _ _ (λ tag. leaves-then _ leaves-byte (λ flags f. leaves-bind _ _ (λ _.
      leaves-tag _ _ _ (leaves-then _ (leaves-number 16) (λ operand a. leaves-then _ leaves-position (λ at b. leaves-then _ leaves-position (λ bracket c.
      leaves-pure _ (f, (a, (b, c)))))))
      (leaves-tag _ _ _ (leaves-then _ leaves-name (λ name a. leaves-then _ leaves-name (λ getter b. leaves-then _ leaves-name (λ setter c.
      leaves-then _ leaves-position (λ at d. leaves-pure _ (f, (a, (b, (c, d)))))))))
      (leaves-tag _ _ _ (leaves-then _ leaves-name (λ name a. leaves-then _ leaves-byte (λ argc b. leaves-then _ (leaves-number 16) (λ operand c.
      leaves-then _ leaves-position (λ at d. leaves-pure _ (f, (a, (b, (c, d)))))))))
      (leaves-unknown _ _))))))

  leaves-chains : (places step_places mask : ℕ) → Leaves s (definition.chains places step_places mask) (Each (Throughout FitsChain FitsStep))
  unfolding definition.chains definition.chain
  leaves-chains places step_places mask =
      leaves-bind _ _ (λ n. leaves-nested _ _ _ n _ (λ used.
      leaves-then _ leaves-root (λ r a. leaves-then _ (leaves-number 16) (λ operands b. leaves-then _ (leaves-list _ _ _ (leaves-step mask)) (λ steps c.
      leaves-then _ leaves-tail (λ t d. leaves-pure _ (record { whole = record { root = a; operands = b; tail = d }; items = c })))))))

  pub leaves-artifact : (P : A.Places) (mask : ℕ) → Leaves s (definition.artifact P mask) FitsArtifact
  unfolding definition.artifact definition.assigns
  leaves-artifact P mask =
      leaves-bind _ _ (λ h. leaves-bind _ _ (λ source.
      leaves-then _ (leaves-ends P.names) (λ ns f.
      leaves-then _ (leaves-constants P.constants) (λ cs g.
      leaves-bind _ _ (λ ts.
      leaves-then _ (leaves-list _ _ _ leaves-assign) (λ os a.
      leaves-then _ (leaves-chains P.chains P.steps mask) (λ ls b.
      leaves-then _ (leaves-switches P.switches P.cases P.ranges (length cs)) (λ ws c.
      leaves-then _ (leaves-customs P.customs P.inputs) (λ us d.
      leaves-bind _ _ (λ main.
      leaves-then _ (leaves-functions P.functions P.parameters) (λ fs e.
      leaves-bind _ _ (λ code. leaves-bind _ _ (λ ps.
      leaves-pure _ (record { ends = f; constants = g; assigns = a; chains = b; switches = c; customs = d; functions = e }))))))))))))))
