-- Each table by the test that its rows are given.
use Rattle.std.proofs.Common.{rules, ltb, ◌&&◌}
use Rattle.rows.specs.Back.{word}
use Rattle.model.specs.Rules.{sound_switch, sound_case, sound_range}
use Rattle.rules.proofs.once.switches_keep.Goals as goal

pub returns : goal.returns
returns c =
    let l = c.args.l.now in
    rw (
      c.every-switches.ensures sound_switch (λ row b met. search rules),
      c.every-cases.ensures (λ row. ltb (word row 1) l.outside.tops && sound_case row) (λ row b met. search rules),
      c.every-ranges.ensures sound_range (λ row b met. search rules),
      c.cut.ensures,
      c.cut-2.ensures,
      c.cut-3.ensures,
    )
