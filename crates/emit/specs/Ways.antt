-- The way asked: positions kept, or stripped; chain by chain, and what is stripped in each.
use Rattle.std.specs.Prelude.{ℕ, Bool, true, false, List, map, Option, Some, None}
use Rattle.tables.specs.Table.{With}
use Rattle.format.specs.declared.records.Position.{Position}
use Rattle.format.specs.declared.records.Root.{Root}
use Rattle.format.specs.declared.records.Step.{Step}
use Rattle.format.specs.declared.records.Chain.{Chain}
use Rattle.written.specs.Put.{put_step, put_chain}
use Rattle.written.specs.Strip.{strip_root, strip_step, strip_chain}

abbrev pub position_in : Bool → Option Position → Option Position
position_in false p = p
position_in true p = None

abbrev pub root_in : Bool → Root → Root
root_in false r = r
root_in true r = strip_root r

abbrev pub step_in : Bool → Step → Step
step_in false s = s
step_in true s = strip_step s

abbrev pub put_step_in : Bool → Step → List ℕ
put_step_in stripped s = put_step (step_in stripped s)

abbrev pub chain_in : Bool → With Chain Step → With Chain Step
chain_in false c = c
chain_in true c = strip_chain c

abbrev pub put_chain_in : Bool → With Chain Step → List ℕ
put_chain_in stripped c = put_chain (chain_in stripped c)

abbrev pub chains_in : Bool → List (With Chain Step) → List (With Chain Step)
chains_in false cs = cs
chains_in true cs = map strip_chain cs
