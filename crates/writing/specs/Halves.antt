-- The bytes that are put, in two halves: the sections up to the assign records, and those from the chains on.
use Rattle.std.specs.Prelude.{ℕ, Bool, true, false, List, [], ◌++◌}
use Rattle.grammar.specs.Number.{shortest}
use Rattle.grammar.specs.declared.Span.{Span}
use Rattle.tables.specs.Table.{With}
use Rattle.format.specs.Artifact as A
use Rattle.format.specs.declared.records.NameIndex.{NameIndex}
use Rattle.format.specs.declared.records.Chunk.{Chunk}
use Rattle.format.specs.declared.records.Step.{Step}
use Rattle.format.specs.declared.records.Chain.{Chain}
use Rattle.format.specs.declared.records.Input.{Input}
use Rattle.format.specs.declared.records.Site.{Site}
use Rattle.format.specs.declared.records.Function.{Function}
use Rattle.rows.specs.Back.{records_of, end_of, span_of, assign_of}
use Rattle.written.specs.Put.{put_header, put_bytes, put_list, put_constant, put_assign, put_chain, put_switch, put_site, put_chunk, put_function}
use Rattle.model.specs.Lent.{Lent, clip}
use Rattle.model.specs.Tables.{assign_means}
use Rattle.emit.specs.Ways.{chains_in}
use Rattle.emit.specs.Headers.{header_of}
use Rattle.emit.specs.Shares.{chains_of, sites_of, functions_of, switches_of}
use Rattle.emit.specs.Constants.{constants_of}

-- ── of what the sections hold; names are two here, the ends and the blob ──

abbrev pub put_front : A.Header → (source ends blob : List ℕ) → List (A.Constant (List ℕ) A.levels) → List (List ℕ) → List (A.Assign (List ℕ)) → List ℕ
put_front header source ends blob constants tokens assigns =
    put_header header
    ++ (put_bytes source
    ++ (put_list shortest ends
    ++ (put_bytes blob
    ++ (put_list (put_constant A.levels) constants
    ++ (put_list put_bytes tokens
    ++ put_list put_assign assigns)))))

abbrev pub put_back : List (With Chain Step) → List A.Cased → List (With Site Input) → Chunk → List (With Function NameIndex) → (code positions : List ℕ) → List ℕ
put_back chains switches customs main functions code positions =
    put_list put_chain chains
    ++ (put_list put_switch switches
    ++ (put_list put_site customs
    ++ (put_chunk main
    ++ (put_list put_function functions
    ++ (put_bytes code
    ++ put_bytes positions)))))

-- ── of tables ──

-- a stripped artifact has an empty table
abbrev pub table_in : Bool → List ℕ → Span → List ℕ
table_in false text span = clip text span
table_in true text span = []

module _ (m : Lent) where
  unfoldable pub front_of : List ℕ
  front_of =
      put_front
      (header_of m.outside.header)
      (clip m.text m.outside.source)
      (records_of 1 end_of m.outside.used.names m.ends)
      (clip m.text m.outside.blob)
      (constants_of m.text m.constants m.outside.used.constants m.outside.tops)
      (records_of 2 (λ row. clip m.text (span_of row)) m.outside.used.tokens m.tokens)
      (records_of 6 (λ row. assign_means m.text (assign_of row)) m.outside.used.assigns m.assigns)

  unfoldable pub back_of : Bool → List ℕ
  back_of stripped =
      put_back
      (chains_in stripped (chains_of m.chains m.outside.used.chains m.steps))
      (switches_of m.switches m.outside.used.switches m.cases m.ranges)
      (sites_of m.customs m.outside.used.customs m.inputs)
      m.outside.main
      (functions_of m.functions m.outside.used.functions m.parameters)
      (clip m.text m.outside.code)
      (table_in stripped m.text m.outside.positions)
