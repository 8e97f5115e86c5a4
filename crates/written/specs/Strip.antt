-- Stripping: 0 0 is written for every chain position, and an empty table.
use Rattle.std.specs.Prelude.{[], map, None}
use Rattle.tables.specs.Table.{With}
use Rattle.format.specs.declared.records.Root.{Root}
use Rattle.format.specs.declared.records.Step.{Step}
use Rattle.format.specs.declared.records.Chain.{Chain}
use Rattle.written.specs.Meaning.{Meaning}

abbrev pub strip_root : Root → Root
strip_root (Root.Local slot name) = Root.Local slot name
strip_root Root.Temporary = Root.Temporary
strip_root (Root.Named name at) = Root.Named name None
strip_root (Root.This at) = Root.This None

abbrev pub strip_step : Step → Step
strip_step (Step.Index flags operand at bracket) = Step.Index flags operand None None
strip_step (Step.Property flags name getter setter at) = Step.Property flags name getter setter None
strip_step (Step.Method flags name argc operand at) = Step.Method flags name argc operand None

abbrev pub strip_chain : With Chain Step → With Chain Step
strip_chain c =
    record {
      whole = record { root = strip_root c.whole.root; operands = c.whole.operands; steps = c.whole.steps; tail = c.whole.tail };
      items = map strip_step c.items;
    }

unfoldable pub strip : Meaning → Meaning
strip m =
    record {
      header = m.header;
      source = m.source;
      names = m.names;
      constants = m.constants;
      tokens = m.tokens;
      assigns = m.assigns;
      chains = map strip_chain m.chains;
      switches = m.switches;
      customs = m.customs;
      main = m.main;
      functions = m.functions;
      code = m.code;
      positions = [];
    }
