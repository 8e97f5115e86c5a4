-- THE RULES OF WELL-FORMED TABLES: document 01, "Well-formed tables, and writing", rule by rule. Each is a test of the words as they
-- stand, for a mask of the step flags. A rule looks only at the words that a tag uses; a tag that is not known uses none, and owns
-- no items.
use Rattle.std.specs.Prelude.{ℕ, zero, suc, ◌+◌, ◌/◌, ◌^◌, Bool, true, false, not, ◌&&◌, ◌||◌, List, [], ◌∷◌, ◌++◌, length, take, leb, ltb, eqb, if◌then◌else◌}
use Rattle.std.specs.Int.Bits.{bit_and}
use Rattle.grammar.specs.declared.Span.{Span}
use Rattle.utf8.specs.Check.{is_utf8}
use Rattle.refusal.specs.declared.Refusal.{Refusal}
use Rattle.std.specs.Prelude.{Result, Ok, Err}
use Rattle.position_table.specs.Table.{checked}
use Rattle.format.specs.File.{rising, last_end, scalar}
use Rattle.format.specs.Artifact.{levels}
use Rattle.format.specs.declared.answer.Used.{Used}
use Rattle.rows.specs.Back.{cut, word}
use Rattle.model.specs.Lent.{Lent, constant_rows, case_rows, clip, every}

-- ── how constants follow each other ──

abbrev pub tag : List ℕ → ℕ
tag row = word row 0

-- an array, a map and a function pointer own as many items as they say
abbrev pub owns : List ℕ → ℕ
owns row = if eqb (tag row) 0x07 || (eqb (tag row) 0x08 || eqb (tag row) 0x0D) then word row 5 else 0

-- the rows behind the next n constants and all that they own
unfoldable pub skip : List (List ℕ) → ℕ → List (List ℕ)
skip [] n = []
skip (row ∷ rows) zero = row ∷ rows
skip (row ∷ rows) (suc n) = skip rows (owns row + n)

-- the rows of the next n constants, without what they own
unfoldable pub entries : ℕ → List (List ℕ) → List (List ℕ)
entries zero rows = []
entries (suc n) [] = []
entries (suc n) (row ∷ rows) = row ∷ entries n (skip rows (owns row))

-- the rows that are a map's entries: their keys are used
unfoldable pub keyed : List (List ℕ) → List (List ℕ)
keyed [] = []
keyed (row ∷ rows) = (if eqb (tag row) 0x08 then entries (word row 5) rows else []) ++ keyed rows

-- ── 1. counts fit and shares use their tables exactly ──

abbrev pub fits : ℕ → ℕ → List ℕ → Bool
fits used width table = leb used (length table / width)

-- top constants are owed, and each row owes its items: nothing is owed at the end, and something before
unfoldable pub exactly : List (List ℕ) → ℕ → Bool
exactly [] owed = eqb owed 0
exactly (row ∷ rows) zero = false
exactly (row ∷ rows) (suc owed) = exactly rows (owns row + owed)

unfoldable pub total : ℕ → List (List ℕ) → ℕ
total i [] = 0
total i (row ∷ rows) = word row i + total i rows

abbrev pub counts_fit : Lent → Bool
counts_fit m =
    ((fits m.outside.used.names 1 m.ends && fits m.outside.used.constants 8 m.constants)
    && (fits m.outside.used.tokens 2 m.tokens && fits m.outside.used.assigns 6 m.assigns))
    && (((fits m.outside.used.chains 9 m.chains && fits m.outside.used.steps 11 m.steps)
    && (fits m.outside.used.switches 3 m.switches
    && (fits m.outside.used.cases 2 m.cases && fits m.outside.used.ranges 4 m.ranges)))
    && ((fits m.outside.used.customs 3 m.customs && fits m.outside.used.inputs 5 m.inputs)
    && (fits m.outside.used.functions 7 m.functions && fits m.outside.used.parameters 1 m.parameters)))

-- the constants' rows, and the shares of steps, cases, ranges, inputs and parameters
abbrev pub shares_fit : Used → ℕ → (constants chains switches customs functions : List ℕ) → Bool
shares_fit u tops constants chains switches customs functions =
    exactly (cut 8 u.constants constants) tops
    && (eqb (total 6 (cut 9 u.chains chains)) u.steps
    && (eqb (total 0 (cut 3 u.switches switches)) u.cases
    && (eqb (total 1 (cut 3 u.switches switches)) u.ranges
    && (eqb (total 2 (cut 3 u.customs customs)) u.inputs
    && eqb (total 3 (cut 7 u.functions functions)) u.parameters))))

abbrev pub rule1 : Lent → Bool
rule1 m =
    counts_fit m
    && shares_fit m.outside.used m.outside.tops m.constants m.chains m.switches m.customs m.functions

-- ── 2. spans lie in the lent text ──

abbrev pub lies : List ℕ → Span → Bool
lies text span = leb (span.start + span.size) (length text)

-- the span in two words of a row
abbrev pub span_at : ℕ → List ℕ → Span
span_at i row = record { start = word row i; size = word row (suc i) }

-- a string, a blob and a function pointer have a text; of a blob's nothing is asked but that it lies there
abbrev pub named : ℕ → Bool
named tag = eqb tag 0x06 || eqb tag 0x0D

abbrev pub texted : ℕ → Bool
texted tag = named tag || eqb tag 0x09

-- a test of the text of each constant of some tags, of each key, token, and of both tokens of each assign record
abbrev pub texts : (ℕ → Bool) → (Span → Bool) → Used → (constants tokens assigns : List ℕ) → Bool
texts which test u constants tokens assigns =
    (every (λ row. not (which (tag row)) || test (span_at 3 row)) (cut 8 u.constants constants)
    && every (λ row. test (span_at 6 row)) (keyed (cut 8 u.constants constants)))
    && (every (λ row. test (span_at 0 row)) (cut 2 u.tokens tokens)
    && every (λ row. test (span_at 0 row) && test (span_at 3 row)) (cut 6 u.assigns assigns))

abbrev pub outside_lies : List ℕ → (source blob code positions : Span) → Bool
outside_lies text source blob code positions = (lies text source && lies text blob) && (lies text code && lies text positions)

abbrev pub rule2 : Lent → Bool
rule2 m =
    outside_lies m.text m.outside.source m.outside.blob m.outside.code m.outside.positions
    && texts texted (lies m.text) m.outside.used m.constants m.tokens m.assigns

-- ── 3. strings are UTF-8 ──

abbrev pub is_text : List ℕ → Span → Bool
is_text text span = is_utf8 (clip text span)

abbrev pub rule3 : Lent → Bool
rule3 m =
    is_text m.text m.outside.source
    && texts named (is_text m.text) m.outside.used m.constants m.tokens m.assigns

-- ── 4. the names rule: ends never fall, the last end (or 0) equals the blob length, the whole blob is UTF-8 ──

abbrev pub rule4 : Lent → Bool
rule4 m =
    (rising 0 (take m.outside.used.names m.ends)
    && eqb (last_end 0 (take m.outside.used.names m.ends)) m.outside.blob.size)
    && is_text m.text m.outside.blob

-- ── 5. tags and access known, flags within the caller's mask ──

abbrev pub known_constant : List ℕ → Bool
known_constant row = leb (tag row) 0x0B || (eqb (tag row) 0x0D && (eqb (word row 1) 0x81 || eqb (word row 1) 0x82))

abbrev pub among : ℕ → ℕ → Bool
among most tag = leb 1 tag && leb tag most

abbrev pub known_chain : List ℕ → Bool
known_chain row = among 4 (tag row) && among 3 (word row 7)

abbrev pub known_step : ℕ → List ℕ → Bool
known_step mask row = among 3 (tag row) && eqb (bit_and (word row 1) mask) (word row 1)

abbrev pub known_function : List ℕ → Bool
known_function row = leb (word row 1) 1

abbrev pub known : ℕ → Used → (constants chains steps functions : List ℕ) → Bool
known mask u constants chains steps functions =
    (every known_constant (cut 8 u.constants constants) && every known_chain (cut 9 u.chains chains))
    && (every (known_step mask) (cut 11 u.steps steps) && every known_function (cut 7 u.functions functions))

abbrev pub rule5 : ℕ → Lent → Bool
rule5 mask m = known mask m.outside.used m.constants m.chains m.steps m.functions

-- ── 6. depth at most 64 ──

-- the rows behind some constants, if the levels do for them
pub data Behind : Type 0 where
  behind : List (List ℕ) → Behind
  too_deep : Behind

abbrev pub and_then : Behind → (List (List ℕ) → Behind) → Behind
and_then (behind rows) next = next rows
and_then too_deep next = too_deep

-- behind the next n constants, of at most so many levels
unfoldable pub within : (levels n : ℕ) → List (List ℕ) → Behind
within zero zero rows = behind rows
within zero (suc n) rows = too_deep
within (suc fewer) zero rows = behind rows
within (suc fewer) (suc n) [] = behind []
within (suc fewer) (suc n) (row ∷ rows) = and_then (within fewer (owns row) rows) (within (suc fewer) n)

abbrev pub not_too_deep : Behind → Bool
not_too_deep (behind rows) = true
not_too_deep too_deep = false

-- top constants stand at depth 0
abbrev pub rule6 : Lent → Bool
rule6 m = not_too_deep (within levels m.outside.tops (constant_rows m))

-- ── 7. chars are scalars ──

abbrev pub rule7 : Lent → Bool
rule7 m = every (λ row. not (eqb (tag row) 0x05) || scalar (word row 1)) (constant_rows m)

-- ── 8. cases name top constants ──

abbrev pub rule8 : Lent → Bool
rule8 m = every (λ row. ltb (word row 1) m.outside.tops) (case_rows m)

-- ── 9. line 0 has column 0, what is yes or no is 0 or 1, a present literal is below FFFFFFFF, every number fits its kind,
-- this_type is at most 2^32 ──

abbrev pub bits : ℕ → ℕ → Bool
bits n w = ltb w (2 ^ n)

abbrev pub yes_no : ℕ → Bool
yes_no w = leb w 1

-- a position: line and column
abbrev pub sound_position : ℕ → ℕ → Bool
sound_position line column = bits 16 line && (bits 16 column && (not (eqb line 0) || eqb column 0))

abbrev pub sound_chunk : ℕ → ℕ → ℕ → Bool
sound_chunk entry end slots = bits 32 entry && (bits 32 end && bits 16 slots)

abbrev pub sound_assign : List ℕ → Bool
sound_assign row = bits 32 (word row 2) && bits 32 (word row 5)

-- chains: root tag, slot, name, line, column, operands, steps, tail tag, operator
abbrev pub sound_root : List ℕ → Bool
sound_root row =
    if eqb (tag row) 1 then bits 16 (word row 1) && bits 32 (word row 2)
    else (if eqb (tag row) 3 then bits 32 (word row 2) && sound_position (word row 3) (word row 4)
    else (if eqb (tag row) 4 then sound_position (word row 3) (word row 4)
    else true))

abbrev pub sound_chain : List ℕ → Bool
sound_chain row = sound_root row && (bits 16 (word row 5) && (not (eqb (word row 7) 3) || bits 32 (word row 8)))

-- steps: tag, flags, operand, name, getter, setter, argument count, line, column, bracket line, bracket column
-- (a tag that is not known is refused by rule 5, before)
abbrev pub sound_by_tag : List ℕ → Bool
sound_by_tag row =
    if eqb (tag row) 1 then bits 16 (word row 2) && sound_position (word row 9) (word row 10)
    else (if eqb (tag row) 2 then bits 32 (word row 3) && (bits 32 (word row 4) && bits 32 (word row 5))
    else bits 32 (word row 3) && (bits 8 (word row 6) && bits 16 (word row 2)))

abbrev pub sound_step : List ℕ → Bool
sound_step row = sound_position (word row 7) (word row 8) && sound_by_tag row

abbrev pub sound_switch : List ℕ → Bool
sound_switch row = bits 32 (word row 2)

abbrev pub sound_case : List ℕ → Bool
sound_case row = bits 32 (word row 0) && bits 32 (word row 1)

abbrev pub sound_range : List ℕ → Bool
sound_range row = yes_no (word row 2) && bits 32 (word row 3)

abbrev pub sound_site : List ℕ → Bool
sound_site row = bits 32 (word row 0) && bits 32 (word row 1)

abbrev pub sound_input : List ℕ → Bool
sound_input row =
    sound_chunk (word row 0) (word row 1) (word row 2)
    && (yes_no (word row 3) && (not (eqb (word row 3) 1) || ltb (word row 4) 0xFFFFFFFF))

abbrev pub sound_function : List ℕ → Bool
sound_function row =
    bits 32 (word row 0) && (leb (word row 2) (2 ^ 32) && sound_chunk (word row 4) (word row 5) (word row 6))

abbrev pub sound_word : List ℕ → Bool
sound_word row = bits 32 (word row 0)

abbrev pub sound_front : Used → (ends assigns chains steps : List ℕ) → Bool
sound_front u ends assigns chains steps =
    (every sound_word (cut 1 u.names ends) && every sound_assign (cut 6 u.assigns assigns))
    && (every sound_chain (cut 9 u.chains chains) && every sound_step (cut 11 u.steps steps))

abbrev pub sound_switches : Used → (switches cases ranges : List ℕ) → Bool
sound_switches u switches cases ranges =
    every sound_switch (cut 3 u.switches switches)
    && (every sound_case (cut 2 u.cases cases) && every sound_range (cut 4 u.ranges ranges))

abbrev pub sound_callables : Used → (customs inputs functions parameters : List ℕ) → Bool
sound_callables u customs inputs functions parameters =
    (every sound_site (cut 3 u.customs customs) && every sound_input (cut 5 u.inputs inputs))
    && (every sound_function (cut 7 u.functions functions) && every sound_word (cut 1 u.parameters parameters))

abbrev pub rule9 : Lent → Bool
rule9 m =
    m.numbers_fit
    && (sound_front m.outside.used m.ends m.assigns m.chains m.steps
    && (sound_switches m.outside.used m.switches m.cases m.ranges
    && sound_callables m.outside.used m.customs m.inputs m.functions m.parameters))

-- ── 10. a position table is empty or checks ──

abbrev pub sound : Result Unit Refusal → Bool
sound (Ok tt) = true
sound (Err r) = false

abbrev pub sound_table : List ℕ → Span → Bool
sound_table text span = eqb span.size 0 || sound (checked (clip text span))

abbrev pub rule10 : Lent → Bool
rule10 m = sound_table m.text m.outside.positions
