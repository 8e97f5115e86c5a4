-- What an accepted read means is written in no more bytes than were read, so it can be written again.
use Rattle.std.proofs.Common.{if◌then◌else◌}
use Prim.Native.Nat.{ℕ, zero, suc, ◌+◌, ◌-◌, ◌≤◌}
use mathlib.Core.Path.{◌≡◌, refl}
use mathlib.Core.Bool.{Bool, true, false}
use mathlib.Core.List.{List, ◌++◌, map}
use native.Mathlib.Omega.{arith}
use lib.ListN.{length, length-append}
use lib.Dec.{eqb}
use borrow.Author.Tests.{eqb-true, eqb-false}
use Rattle.grammar.specs.Combinators.{Text, many}
use Rattle.grammar.specs.Number.{shortest, shortest_in}
use Rattle.grammar.proofs.RoundTrip.{itself}
use Rattle.grammar.proofs.Shortest.{shortest-some}
use Rattle.tables.specs.Table.{count_items}
use Rattle.refusal.specs.declared.Refusal.{Refusal}
use Rattle.std.specs.Prelude.{Result, Ok, Err, Some, None}
use Rattle.format.specs.Artifact as A
use Rattle.format.specs.File as definition
use Rattle.written.specs.Meaning.{mean_text, mean_names, mean_constant, mean_assign, mean}
use Rattle.written.specs.Put.{put_bytes, put_list, put_name, put_position, put_chunk, put_header, put_names, put_kind, put_constant, put_assign, put_root, put_step, put_tail, put_chain, put_case, put_range, put_switch, put_literal, put_input, put_site, put_access, put_this, put_function, put}
use Rattle.written.proofs.Constants.{mean_entry, behind_text, read_entry, put_entry}
use Rattle.written.proofs.Spending.{Spends, spends-pure, spends-refuse, spends-then, spends-free, spends-check, spends-room, spends-left, spends-place, spends-tag, spends-unknown, spends-byte, spends-fixed, spends-number, spends-signed, spends-text, spends-bytes, spends-string, spends-counted, spends-records, spends-list, spends-themselves, spends-items, spends-nested}

-- ── where a value is not written as it stood ──

-- 0 and 1 are a byte
pub one_byte : (length (shortest 0) ≡ 1) × (length (shortest 1) ≡ 1)
unfolding shortest shortest_in
one_byte = (refl, refl)

-- a column beside line 0 is lost
placed-short : (line column : ℕ) → length (put_position (definition.placed line column)) ≤ length (shortest line) + length (shortest column)
placed-short line column = go (eqb line 0)
  where
    go : (b : Bool) → length (put_position (if b then None else Some (record { line = line; column = column }))) ≤ length (shortest line) + length (shortest column)
    go true = omega (arith, length-append (shortest 0) (shortest 0), one_byte.0, shortest-some line, shortest-some column)
    go false = omega (arith, length-append (shortest line) (shortest column))

literal-short : (n : ℕ) → length (put_literal (if eqb n 0xFFFFFFFF then None else Some n)) ≤ length (shortest n)
literal-short n = go (eqb n 0xFFFFFFFF) refl
  where
    go : (b : Bool) → eqb n 0xFFFFFFFF ≡ b → length (put_literal (if b then None else Some n)) ≤ length (shortest n)
    go true e = let same : n ≡ 0xFFFFFFFF = eqb-true _ _ e in rw same (omega arith)
    go false e = omega arith

this-short : (n : ℕ) → length (put_this (if eqb n 0 then None else Some (n - 1))) ≤ length (shortest n)
this-short n = go (eqb n 0) refl
  where
    go : (b : Bool) → eqb n 0 ≡ b → length (put_this (if b then None else Some (n - 1))) ≤ length (shortest n)
    go true e = omega (arith, one_byte.0, shortest-some n)
    go false e =
        let some : n ≡ 0 → ⊥ = eqb-false _ _ e in
        let back : n - 1 + 1 ≡ n = omega arith in
        rw back (omega arith)

-- ── the sections ──

module _ {s : List ℕ} where
  spends-name : Spends s definition.name_index (λ name. length (put_name name))
  unfolding definition.name_index
  spends-name = spends-then _ (spends-number 32) (λ n. spends-pure _ (omega arith))

  spends-position : Spends s definition.position (λ at. length (put_position at))
  unfolding definition.position
  spends-position =
      spends-then _ (spends-number 16) (λ line. spends-then _ (spends-number 16) (λ column. spends-pure _ (omega (arith, placed-short line column))))

  spends-chunk : Spends s definition.chunk (λ c. length (put_chunk c))
  unfolding definition.chunk
  spends-chunk =
      spends-then _ (spends-number 32) (λ entry. spends-then _ (spends-number 32) (λ end. spends-then _ (spends-number 16) (λ slots.
      spends-pure _ (simp (length-append) (omega arith)))))

  spends-header : Spends s definition.header (λ h. length (put_header h))
  unfolding definition.header
  spends-header =
      spends-then _ (spends-text 4) (λ m. spends-free _ (spends-check _ _) (λ _. spends-then _ (spends-fixed 2) (λ version. spends-free _ (spends-check _ _) (λ _.
      spends-then _ spends-byte (λ int. spends-then _ spends-byte (λ float. spends-then _ (spends-fixed 4) (λ caps. spends-free _ (spends-check _ _) (λ _.
      spends-then _ (spends-fixed 8) (λ low. spends-then _ (spends-fixed 8) (λ high. spends-pure _ (omega arith)))))))))))

  spends-names : (places : ℕ) → Spends s (definition.names places) (λ ns. length (put_names (mean_names ns)))
  unfolding definition.names
  spends-names places =
      spends-then _ (spends-number 64) (λ n. spends-free _ (spends-left n) (λ _. spends-then _
      (spends-themselves (λ xs. length (put_list shortest xs) - length (shortest n)) (spends-records itself shortest 1 places (spends-number 32) n 0)) (λ ends.
      spends-then _ spends-bytes (λ all. spends-free _ (spends-check _ _) (λ _. spends-free _ (spends-check _ _) (λ _. spends-free _ (spends-check _ _) (λ _.
      spends-pure _ (omega (arith, length-append (put_list shortest ends) (put_bytes all.bytes))))))))))

  spends-assign : Spends s definition.assign (λ a. length (put_assign (mean_assign a)))
  unfolding definition.assign
  spends-assign =
      spends-then _ spends-string (λ op_assign. spends-then _ spends-name (λ op_assign_name. spends-then _ spends-string (λ op. spends-then _ spends-name (λ op_name.
      spends-pure _ (simp (length-append) (omega arith))))))

  spends-root : Spends s definition.root (λ r. length (put_root r))
  unfolding definition.root
  spends-root =
      spends-then _ spends-byte (λ tag.
      spends-tag _ _ _ (spends-then _ (spends-number 16) (λ slot. spends-then _ spends-name (λ name. spends-pure _ (simp (length-append) (omega arith)))))
      (spends-tag _ _ _ (spends-pure _ (omega arith))
      (spends-tag _ _ _ (spends-then _ spends-name (λ name. spends-then _ spends-position (λ at. spends-pure _ (simp (length-append) (omega arith)))))
      (spends-tag _ _ _ (spends-then _ spends-position (λ at. spends-pure _ (omega arith)))
      (spends-unknown _ _)))))

  spends-step : (mask : ℕ) → Spends s (definition.step mask) (λ st. length (put_step st))
  unfolding definition.step
  spends-step mask =
      spends-then _ spends-byte (λ tag. spends-then _ spends-byte (λ flags. spends-free _ (spends-check _ _) (λ _.
      spends-tag _ _ _ (spends-then _ (spends-number 16) (λ operand. spends-then _ spends-position (λ at. spends-then _ spends-position (λ bracket.
      spends-pure _ (simp (length-append) (omega arith))))))
      (spends-tag _ _ _ (spends-then _ spends-name (λ name. spends-then _ spends-name (λ getter. spends-then _ spends-name (λ setter. spends-then _ spends-position (λ at.
      spends-pure _ (simp (length-append) (omega arith)))))))
      (spends-tag _ _ _ (spends-then _ spends-name (λ name. spends-then _ spends-byte (λ argc. spends-then _ (spends-number 16) (λ operand. spends-then _ spends-position (λ at.
      spends-pure _ (simp (length-append) (omega arith)))))))
      (spends-unknown _ _))))))

  spends-tail : Spends s definition.tail (λ t. length (put_tail t))
  unfolding definition.tail
  spends-tail =
      spends-then _ spends-byte (λ tag.
      spends-tag _ _ _ (spends-pure _ (omega arith))
      (spends-tag _ _ _ (spends-pure _ (omega arith))
      (spends-tag _ _ _ (spends-then _ (spends-number 32) (λ op. spends-pure _ (omega arith)))
      (spends-unknown _ _))))

  spends-chain : (step_places mask used : ℕ) → Spends s (definition.chain step_places mask used) (λ c. length (put_chain c))
  unfolding definition.chain
  spends-chain step_places mask used =
      spends-then _ spends-root (λ root. spends-then _ (spends-number 16) (λ operands.
      spends-then _ (spends-items put_step 6 step_places used (spends-step mask)) (λ steps. spends-then _ spends-tail (λ tail.
      spends-pure _ (omega (arith, length-append (put_root root) (shortest operands ++ (put_list put_step steps ++ put_tail tail)), length-append (shortest operands) (put_list put_step steps ++ put_tail tail), length-append (put_list put_step steps) (put_tail tail)))))))

  spends-case : (tops : ℕ) → Spends s (definition.case tops) (λ c. length (put_case c))
  unfolding definition.case
  spends-case tops =
      spends-then _ (spends-number 32) (λ blocks. spends-free _ spends-place (λ at. spends-then _ (spends-number 32) (λ k. spends-free _ (spends-check _ _) (λ _.
      spends-pure _ (simp (length-append) (omega arith))))))

  spends-range : Spends s definition.case_range (λ r. length (put_range r))
  unfolding definition.case_range
  spends-range =
      spends-then _ spends-signed (λ from. spends-then _ spends-signed (λ to. spends-then _ spends-byte (λ inclusive. spends-then _ (spends-number 32) (λ target.
      spends-pure _ (simp (length-append) (omega arith))))))

  spends-switch : (case_places range_places tops : ℕ) (used : A.UsedCases) → Spends s (definition.switch case_places range_places tops used) (λ w. length (put_switch w))
  unfolding definition.switch
  spends-switch case_places range_places tops used =
      spends-then _ (spends-items put_case 8 case_places used.cases (spends-case tops)) (λ cases.
      spends-then _ (spends-items put_range 9 range_places used.ranges spends-range) (λ ranges. spends-then _ (spends-number 32) (λ default.
      spends-pure _ (omega (arith, length-append (put_list put_case cases) (put_list put_range ranges ++ shortest default), length-append (put_list put_range ranges) (shortest default))))))

  spends-input : Spends s definition.input (λ i. length (put_input i))
  unfolding definition.input
  spends-input =
      spends-then _ spends-chunk (λ c. spends-then _ (spends-number 32) (λ literal.
      spends-pure _ (omega (arith, literal-short literal, length-append (put_chunk c) (put_literal (if eqb literal 0xFFFFFFFF then None else Some literal))))))

  spends-site : (input_places used : ℕ) → Spends s (definition.site input_places used) (λ u. length (put_site u))
  unfolding definition.site
  spends-site input_places used =
      spends-then _ (spends-number 32) (λ key. spends-then _ (spends-number 32) (λ state. spends-then _ (spends-items put_input 11 input_places used spends-input) (λ inputs.
      spends-pure _ (omega (arith, length-append (shortest key) (shortest state ++ put_list put_input inputs), length-append (shortest state) (put_list put_input inputs))))))

  spends-access : Spends s definition.access (λ a. length (put_access a))
  unfolding definition.access
  spends-access =
      spends-then _ (spends-number 64) (λ n. spends-tag _ _ _ (spends-pure _ (omega (arith, one_byte.0, shortest-some n)))
      (spends-tag _ _ _ (spends-pure _ (omega (arith, one_byte.1, shortest-some n))) (spends-refuse _)))

  spends-this : Spends s definition.this_type (λ t. length (put_this t))
  unfolding definition.this_type
  spends-this = spends-then _ (spends-number 64) (λ n. spends-free _ (spends-check _ _) (λ _. spends-pure _ (omega (arith, this-short n))))

  spends-function : (parameter_places used : ℕ) → Spends s (definition.function parameter_places used) (λ f. length (put_function f))
  unfolding definition.function
  spends-function parameter_places used =
      spends-then _ spends-name (λ name. spends-then _ spends-access (λ access. spends-then _ spends-this (λ this.
      spends-then _ (spends-items put_name 13 parameter_places used spends-name) (λ parameters. spends-then _ spends-chunk (λ chunk.
      spends-pure _ (omega (
        arith,
        length-append (put_name name) (put_access access ++ (put_this this ++ (put_list put_name parameters ++ put_chunk chunk))),
        length-append (put_access access) (put_this this ++ (put_list put_name parameters ++ put_chunk chunk)),
        length-append (put_this this) (put_list put_name parameters ++ put_chunk chunk),
        length-append (put_list put_name parameters) (put_chunk chunk),
      )))))))

  spends-sound : (answer : Result Unit Refusal) → Spends s (definition.sound answer) (λ _. 0)
  unfolding definition.sound
  spends-sound (Ok tt) = spends-pure _ (omega arith)
  spends-sound (Err r) = spends-refuse r

  spends-positions : Spends s definition.positions (λ t. length (put_bytes (mean_text t)))
  unfolding definition.positions
  spends-positions = spends-then _ spends-bytes (λ t. spends-free _ (spends-sound _) (λ _. spends-pure _ (omega arith)))

  -- ── constants ──

  spends-kind : Spends s definition.kind (λ k. length (put_kind k))
  unfolding definition.kind
  spends-kind =
      spends-then _ spends-byte (λ tag. spends-tag _ _ _ (spends-pure _ (omega arith))
      (spends-tag _ _ _ (spends-then _ (spends-number 64) (λ n. spends-pure _ (omega arith))) (spends-unknown _ _)))

module _ {s : List ℕ} (places levels : ℕ)
    (deeper : (used : ℕ) → Spends s (definition.constant places levels used) (λ c. length (put_constant levels (mean_constant levels c)))) where
  spends-entry : (used : ℕ) → Spends s (read_entry places levels used) (λ entry. length (put_entry levels (mean_entry levels entry)))
  spends-entry used = spends-then _ spends-string (λ key. spends-then _ (deeper used) (λ value.
      spends-pure _ (omega (arith, length-append (put_bytes key.bytes) (put_constant levels (mean_constant levels value))))))

  spends-inner : (n used : ℕ) → Spends s (many (A.behind Text levels) (definition.constant places levels) n used)
      (λ cs. length (put_list (put_constant levels) (map (mean_constant levels) cs)) - length (shortest n))
  spends-inner n used = spends-counted (mean_constant levels) (put_constant levels) (A.behind Text levels) deeper n used

  spends-entries : (n used : ℕ) → Spends s (many (behind_text levels) (read_entry places levels) n used)
      (λ entries. length (put_list (put_entry levels) (map (mean_entry levels) entries)) - length (shortest n))
  spends-entries n used = spends-counted (mean_entry levels) (put_entry levels) (behind_text levels) spends-entry n used

  spends-one : (used : ℕ) → Spends s (definition.constant places (suc levels) used) (λ c. length (put_constant (suc levels) (mean_constant (suc levels) c)))
  unfolding definition.constant
  spends-one used =
      spends-free _ (spends-room _ _ _) (λ _. spends-then _ spends-byte (λ tag.
      spends-tag _ _ _ (spends-pure _ (omega arith))
      (spends-tag _ _ _ (spends-pure _ (omega arith))
      (spends-tag _ _ _ (spends-pure _ (omega arith))
      (spends-tag _ _ _ (spends-then _ spends-signed (λ n. spends-pure _ (omega arith)))
      (spends-tag _ _ _ (spends-then _ (spends-fixed 8) (λ bits. spends-pure _ (omega arith)))
      (spends-tag _ _ _ (spends-then _ (spends-number 32) (λ code. spends-free _ (spends-check _ _) (λ _. spends-pure _ (omega arith))))
      (spends-tag _ _ _ (spends-then _ spends-string (λ t. spends-pure _ (omega arith)))
      (spends-tag _ _ _ (spends-then _ (spends-number 64) (λ n. spends-then _ (spends-inner n (used + 1)) (λ items. spends-pure _ (omega arith))))
      (spends-tag _ _ _ (spends-then _ (spends-number 64) (λ n. spends-then _ (spends-entries n (used + 1)) (λ entries. spends-pure _ (omega arith))))
      (spends-tag _ _ _ (spends-then _ spends-bytes (λ t. spends-pure _ (omega arith)))
      (spends-tag _ _ _ (spends-then _ spends-signed (λ from. spends-then _ spends-signed (λ to. spends-pure _ (simp (length-append) (omega arith)))))
      (spends-tag _ _ _ (spends-then _ spends-signed (λ from. spends-then _ spends-signed (λ to. spends-pure _ (simp (length-append) (omega arith)))))
      (spends-tag _ _ _ (spends-then _ spends-string (λ name. spends-then _ (spends-number 64) (λ n. spends-then _ (spends-inner n (used + 1)) (λ curried. spends-then _ spends-kind (λ k.
      spends-pure _ (omega (
        arith,
        length-append (put_bytes name.bytes) (put_list (put_constant levels) (map (mean_constant levels) curried) ++ put_kind k),
        length-append (put_list (put_constant levels) (map (mean_constant levels) curried)) (put_kind k),
      )))))))
      (spends-unknown _ _)))))))))))))))

spends-constant : {s : List ℕ} (places levels used : ℕ) → Spends s (definition.constant places levels used) (λ c. length (put_constant levels (mean_constant levels c)))
unfolding definition.constant
spends-constant places zero used = spends-refuse _
spends-constant places (suc levels) used = spends-one places levels (spends-constant places levels) used

-- ── the whole ──

-- what is owed behind a part
owed : (size part rest : ℕ) → size ≤ part + rest → size - part ≤ rest
owed size part rest h = omega arith

pub spends-artifact : {s : List ℕ} (P : A.Places) (mask : ℕ) → Spends s (definition.artifact P mask) (λ a. length (put (mean a)))
unfolding definition.artifact definition.constants definition.tokens definition.assigns definition.chains definition.switches definition.customs definition.functions put
spends-artifact P mask =
    spends-then _ spends-header (λ h. spends-then _ spends-string (λ source. spends-then _ (spends-names P.names) (λ ns.
    spends-then _ (spends-then _ (spends-number 64) (λ n. spends-inner P.constants A.levels (spends-constant P.constants A.levels) n 0)) (λ cs.
    spends-then _ (spends-list mean_text put_bytes 3 P.tokens spends-string 0) (λ ts. spends-then _ (spends-list mean_assign put_assign 4 P.assigns spends-assign 0) (λ os.
    spends-then _ (spends-nested put_chain count_items 5 P.chains _ (spends-chain P.steps mask)) (λ ls.
    spends-then _ (spends-nested put_switch A.count_cases 7 P.switches _ (spends-switch P.cases P.ranges (length cs))) (λ ws.
    spends-then _ (spends-nested put_site count_items 10 P.customs _ (spends-site P.inputs)) (λ us. spends-then _ spends-chunk (λ main.
    spends-then _ (spends-nested put_function count_items 12 P.functions _ (spends-function P.parameters)) (λ fs.
    spends-then _ spends-bytes (λ code. spends-then _ spends-positions (λ ps.
    spends-pure _ (owed _ _ _ (owed _ _ _ (owed _ _ _ (owed _ _ _ (owed _ _ _ (owed _ _ _ (owed _ _ _ (owed _ _ _ (owed _ _ _ (owed _ _ _ (owed _ _ _ (owed _ _ _ (owed _ _ _ (simp (length-append) (omega arith))))))))))))))))))))))))))))
