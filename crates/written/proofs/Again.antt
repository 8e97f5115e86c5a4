-- What an accepted read means can be written again, whole or stripped, under the same mask and with the same places: it is well-formed and no longer than what was read.
use Rattle.std.specs.Prelude.{Option, Some, None}
use Rattle.std.proofs.Common.{if◌then◌else◌}
use Prim.Native.Nat.{ℕ, ◌≤◌, zero-le}
use mathlib.Core.Path.{◌≡◌, refl, sym}
use mathlib.Core.Bool.{Bool, true, false}
use mathlib.Core.List.{List, [], ◌∷◌, ◌++◌, map}
use native.Mathlib.Nat.{le_trans}
use native.Mathlib.Omega.{arith}
use lib.ListN.{length, length-append}
use lib.Dec.{ltb}
use borrow.Author.Tests.{ltb-false}
use Rattle.refusal.specs.declared.Refusal.{Refusal}
use Rattle.grammar.specs.declared.Cursor.{Cursor}
use Rattle.grammar.specs.Outcome.{start, got, refused}
use Rattle.grammar.specs.Combinators.{file, put_all}
use Rattle.grammar.specs.Number.{shortest}
use Rattle.grammar.specs.RoundTrip.{Read}
use Rattle.grammar.proofs.Outcome.{got-ne-refused}
use Rattle.grammar.proofs.Shortest.{shortest-some}
use Rattle.tables.specs.Table.{With}
use Rattle.format.specs.declared.records.Position.{Position}
use Rattle.format.specs.declared.records.Root.{Root}
use Rattle.format.specs.declared.records.Step.{Step}
use Rattle.format.specs.declared.records.Chain.{Chain}
use Rattle.format.specs.Artifact as A
use Rattle.format.specs.File as definition
use Rattle.format.proofs.Prefix.{whole-artifact}
use Rattle.leaves.proofs.Accepted.{sections-got}
use Rattle.rows.specs.Given.{Bytes}
use Rattle.written.specs.Meaning.{Meaning, mean}
use Rattle.written.specs.Put.{put_bytes, put_list, put_name, put_position, put_chunk, put_header, put_names, put_constant, put_assign, put_root, put_step, put_tail, put_chain, put_switch, put_site, put_function, put}
use Rattle.written.specs.Strip.{strip_root, strip_step, strip_chain, strip}
use Rattle.written.proofs.Lists.{length-map}
use Rattle.written.proofs.Whole.{written-read-back}
use Rattle.written.proofs.Stripped.{stripped-well-formed}
use Rattle.written.proofs.Accepted.{accepted-well-formed}
use Rattle.written.proofs.Shorter.{one_byte, spends-artifact}

-- ── stripped is no longer ──

record NoLonger (a b : List ℕ) : Type 0 where
  le : length a ≤ length b

same : (w : List ℕ) → NoLonger w w
same w = record { le = omega arith }

-- side by side
beside : {a b c d : List ℕ} → NoLonger a b → NoLonger c d → NoLonger (a ++ c) (b ++ d)
beside {a} {b} {c} {d} h k = record { le = omega (arith, length-append a c, length-append b d, h.le, k.le) }

behind : (w : List ℕ) {a b : List ℕ} → NoLonger a b → NoLonger (w ++ a) (w ++ b)
behind w h = beside (same w) h

module _ {M : Type 0} (f : M → M) (put : M → List ℕ) (one : (m : M) → NoLonger (put (f m)) (put m)) where
  all-shorter : (ms : List M) → NoLonger (put_all put (map f ms)) (put_all put ms)
  all-shorter [] = same []
  all-shorter (m ∷ ms) = beside (one m) (all-shorter ms)

  list-shorter : (ms : List M) → NoLonger (put_list put (map f ms)) (put_list put ms)
  list-shorter ms = rw (length-map f ms) (behind (shortest (length ms)) (all-shorter ms))

position-shorter : (at : Option Position) → NoLonger (put_position None) (put_position at)
position-shorter None = same _
position-shorter (Some at) =
    record {
      le = omega (arith, length-append (shortest 0) (shortest 0), length-append (shortest at.line) (shortest at.column), one_byte.0, shortest-some at.line, shortest-some at.column);
    }

root-shorter : (r : Root) → NoLonger (put_root (strip_root r)) (put_root r)
root-shorter (Root.Local slot name) = same _
root-shorter Root.Temporary = same _
root-shorter (Root.Named name at) = behind (3 ∷ put_name name) (position-shorter at)
root-shorter (Root.This at) = behind (4 ∷ []) (position-shorter at)

step-shorter : (st : Step) → NoLonger (put_step (strip_step st)) (put_step st)
step-shorter (Step.Index flags operand at bracket) = behind (1 ∷ flags ∷ shortest operand) (beside (position-shorter at) (position-shorter bracket))
step-shorter (Step.Property flags name getter setter at) =
    behind (2 ∷ flags ∷ put_name name) (behind (put_name getter) (behind (put_name setter) (position-shorter at)))
step-shorter (Step.Method flags name argc operand at) =
    behind (3 ∷ flags ∷ put_name name) (behind (argc ∷ shortest operand) (position-shorter at))

chain-shorter : (c : With Chain Step) → NoLonger (put_chain (strip_chain c)) (put_chain c)
chain-shorter c = beside (root-shorter c.whole.root) (behind (shortest c.whole.operands)
    (beside (list-shorter strip_step put_step step-shorter c.items) (same (put_tail c.whole.tail))))

table-shorter : (t : List ℕ) → NoLonger (put_bytes []) (put_bytes t)
table-shorter t =
    record { le = omega (arith, length-append (shortest 0) [], length-append (shortest (length t)) t, one_byte.0, shortest-some (length t)) }

whole-shorter : (m : Meaning) → NoLonger (put (strip m)) (put m)
unfolding put strip
whole-shorter m =
    behind (put_header m.header) (behind (put_bytes m.source) (behind (put_names m.names) (behind (put_list (put_constant A.levels) m.constants)
    (behind (put_list put_bytes m.tokens) (behind (put_list put_assign m.assigns) (beside (list-shorter strip_chain put_chain chain-shorter m.chains)
    (behind (put_list put_switch m.switches) (behind (put_list put_site m.customs) (behind (put_chunk m.main) (behind (put_list put_function m.functions)
    (behind (put_bytes m.code) (table-shorter m.positions))))))))))))

pub stripped-shorter : (m : Meaning) → length (put (strip m)) ≤ length (put m)
stripped-shorter m = (whole-shorter m).le

-- ── what was accepted ──

module _ (P : A.Places) (mask : ℕ) (s : List ℕ) (a : A.Artifact) (last : Cursor) (e : definition.read P mask s ≡ got a last) where
  pub accepted-shorter : length (put (mean a)) ≤ length s
  accepted-shorter =
      let sections = sections-got P mask s a last e in
      let within = rw sections at ((whole-artifact P mask).inside s start zero-le) in
      omega (arith, (spends-artifact P mask).always start a last sections, within.1)

  pub accepted-short : length s ≤ 1048576
  unfolding definition.read
  accepted-short = go (ltb 1048576 (length s)) refl e
    where
      go : (t : Bool) → ltb 1048576 (length s) ≡ t → (if t then refused (Refusal.TooLong (length s)) else file (definition.artifact P mask) s) ≡ got a last →
          length s ≤ 1048576
      go true h e = absurd (got-ne-refused (sym e))
      go false h e = ltb-false _ _ h

  module _ (bytes : Bytes s) where
    -- written again it is read back as the same
    pub accepted-again : Read mean (definition.read P mask (put (mean a))) start (length (put (mean a))) (mean a)
    accepted-again = written-read-back P mask (mean a) (accepted-well-formed P mask s bytes a last e) (le_trans accepted-shorter accepted-short)

    -- and stripped, as the same without positions
    pub accepted-stripped : Read mean (definition.read P mask (put (strip (mean a)))) start (length (put (strip (mean a)))) (strip (mean a))
    accepted-stripped =
        written-read-back P mask (strip (mean a)) (stripped-well-formed P mask (mean a) (accepted-well-formed P mask s bytes a last e))
        (le_trans (stripped-shorter (mean a)) (le_trans accepted-shorter accepted-short))
