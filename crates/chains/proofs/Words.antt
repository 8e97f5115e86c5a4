-- How long the rows of chains and steps are.
use mathlib.Core.Path.{◌≡◌, refl}
use mathlib.Core.List.{◌∷◌, ◌++◌}
use lib.ListN.{length}
use Rattle.format.specs.declared.records.Root.{Root}
use Rattle.format.specs.declared.records.Step.{Step}
use Rattle.format.specs.declared.records.Tail.{Tail}
use Rattle.format.specs.declared.records.Chain.{Chain}
use Rattle.format.specs.Rows.{root_words, tail_words, chain_row, step_row}

pub chain-width : (c : Chain) → length (chain_row c) ≡ 9
chain-width c = wide c.root c.tail
  where
    wide : (root : Root) (tail : Tail) → length (root_words root ++ (c.operands ∷ c.steps ∷ tail_words tail)) ≡ 9
    wide (Root.Local slot name) Tail.Read = refl
    wide (Root.Local slot name) Tail.Assign = refl
    wide (Root.Local slot name) (Tail.AssignOp op) = refl
    wide Root.Temporary Tail.Read = refl
    wide Root.Temporary Tail.Assign = refl
    wide Root.Temporary (Tail.AssignOp op) = refl
    wide (Root.Named name at) Tail.Read = refl
    wide (Root.Named name at) Tail.Assign = refl
    wide (Root.Named name at) (Tail.AssignOp op) = refl
    wide (Root.This at) Tail.Read = refl
    wide (Root.This at) Tail.Assign = refl
    wide (Root.This at) (Tail.AssignOp op) = refl

pub step-width : (s : Step) → length (step_row s) ≡ 11
step-width (Step.Index flags operand at bracket) = refl
step-width (Step.Property flags name getter setter at) = refl
step-width (Step.Method flags name argc operand at) = refl
