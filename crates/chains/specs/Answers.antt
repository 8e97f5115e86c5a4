-- The parts of a step that functions of their own read.
use Rattle.std.specs.Prelude.{ℕ}
use Rattle.grammar.specs.Outcome.{Parser, pure, ◌>>=◌}
use Rattle.grammar.specs.Combinators.{byte}
use Rattle.grammar.specs.Number.{small}
use Rattle.format.specs.File.{name_index, position}
use Rattle.format.specs.declared.records.Step.{Step}

-- behind a step's tag and flags
abbrev pub index_step : ℕ → Parser Step
index_step flags = do
  operand ← small
  at ← position
  bracket ← position
  pure (Step.Index flags operand at bracket)

abbrev pub property_step : ℕ → Parser Step
property_step flags = do
  name ← name_index
  getter ← name_index
  setter ← name_index
  at ← position
  pure (Step.Property flags name getter setter at)

abbrev pub method_step : ℕ → Parser Step
method_step flags = do
  name ← name_index
  argc ← byte
  operand ← small
  at ← position
  pure (Step.Method flags name argc operand at)
