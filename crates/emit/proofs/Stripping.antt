-- In the way asked: roots and steps from their fields, a chain from its parts, and chains from chain by chain.
use Rattle.std.proofs.Common.{if◌then◌else◌}
use Prim.Native.Nat.{ℕ, zero, suc}
use mathlib.Core.Bool.{Bool, true, false}
use mathlib.Core.Path.{◌≡◌, refl}
use mathlib.Core.List.{List, ◌++◌}
use native.Mathlib.Omega.{arith}
use lib.Dec.{eqb}
use borrow.Author.Tests.{ne_eqb}
use Rattle.grammar.specs.Number.{shortest}
use Rattle.tables.specs.Table.{With}
use Rattle.format.specs.declared.records.Root.{Root}
use Rattle.format.specs.declared.records.Step.{Step}
use Rattle.format.specs.declared.records.Chain.{Chain}
use Rattle.format.specs.File.{placed}
use Rattle.rows.specs.Back.{word, octet, small, name, position, index_of, property_of, method_of}
use Rattle.written.specs.Put.{put_list, put_position, put_root, put_step, put_tail, put_chain}
use Rattle.written.specs.Strip.{strip_step, strip_chain}
use Rattle.emit.specs.Ways.{position_in, root_in, put_step_in, put_chain_in, chains_in}
use Rattle.emit.proofs.Listing.{list-map}

pub local-in : (stripped : Bool) (row : List ℕ) →
    put_root (Root.Local (small (word row 1)) (name (word row 2))) ≡ put_root (root_in stripped (Root.Local (small (word row 1)) (name (word row 2))))
local-in false row = refl
local-in true row = refl

pub named_in : (stripped : Bool) (row : List ℕ) →
    put_root (Root.Named (name (word row 2)) (position_in stripped (position (word row 3) (word row 4)))) ≡ put_root (root_in stripped (Root.Named (name (word row 2)) (position (word row 3) (word row 4))))
named_in false row = refl
named_in true row = refl

pub this-in : (stripped : Bool) (row : List ℕ) →
    put_root (Root.This (position_in stripped (position (word row 3) (word row 4)))) ≡ put_root (root_in stripped (Root.This (position (word row 3) (word row 4))))
this-in false row = refl
this-in true row = refl

pub temporary-in : (stripped : Bool) → put_root Root.Temporary ≡ put_root (root_in stripped Root.Temporary)
temporary-in false = refl
temporary-in true = refl

pub index_in : (stripped : Bool) (row : List ℕ) →
    put_step (Step.Index (octet (word row 1)) (small (word row 2)) (position_in stripped (position (word row 7) (word row 8))) (position_in stripped (position (word row 9) (word row 10)))) ≡ put_step_in stripped (index_of row)
index_in false row = refl
index_in true row = refl

pub property-in : (stripped : Bool) (row : List ℕ) →
    put_step (Step.Property (octet (word row 1)) (name (word row 3)) (name (word row 4)) (name (word row 5)) (position_in stripped (position (word row 7) (word row 8)))) ≡ put_step_in stripped (property_of row)
property-in false row = refl
property-in true row = refl

pub method-in : (stripped : Bool) (row : List ℕ) →
    put_step (Step.Method (octet (word row 1)) (name (word row 3)) (octet (word row 6)) (small (word row 2)) (position_in stripped (position (word row 7) (word row 8)))) ≡ put_step_in stripped (method_of row)
method-in false row = refl
method-in true row = refl

pub chain-in : (stripped : Bool) (w : With Chain Step) →
    put_root (root_in stripped w.whole.root) ++ (shortest w.whole.operands ++ (put_list (put_step_in stripped) w.items ++ put_tail w.whole.tail))
    ≡ put_chain_in stripped w
chain-in false w = refl
chain-in true w = rw (list-map put_step strip_step w.items)

pub chains-in : (stripped : Bool) (ws : List (With Chain Step)) → put_list (put_chain_in stripped) ws ≡ put_list put_chain (chains_in stripped ws)
chains-in false ws = refl
chains-in true ws = list-map put_chain strip_chain ws
