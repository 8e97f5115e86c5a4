-- The sizes of chains and steps, from those of their words: by the tag, as the definition tests it.
use Prim.Native.Nat.{◌+◌}
use mathlib.Core.Bool.{Bool}
use mathlib.Core.Path.{◌≡◌}
use mathlib.Core.List.{List}
use native.Mathlib.Omega.{arith}
use lib.ListN.{length, length-append}
use Rattle.grammar.specs.Combinators.{put_all}
use Rattle.format.specs.declared.records.Step.{Step}
use Rattle.format.specs.declared.records.Chain.{Chain}
use Rattle.emit.specs.Ways.{put_step_in, put_chain_in}
use Rattle.emit.proofs.Stripping.{chain-in}
use Rattle.sizes.specs.Own.{own_chain}

-- a chain's steps apart from it
pub chain-apart : (stripped : Bool) (c : Chain) (steps : List Step) → length steps ≡ c.steps →
    length (put_chain_in stripped (record { whole = c; items = steps })) ≡ length (own_chain stripped c) + length (put_all (put_step_in stripped) steps)
chain-apart stripped c steps counts = rw (← chain-in stripped (record { whole = c; items = steps }), counts) (simp length-append (omega arith))
