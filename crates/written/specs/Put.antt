-- THE BYTES OF A MEANING: document 01, "The sections, in file order", section by section, each beside its line of the definition of reading.
use Rattle.std.specs.Prelude.{ℕ, zero, suc, ◌+◌, true, false, List, [], ◌∷◌, ◌++◌, length, if◌then◌else◌, Option, Some, None}
use Rattle.grammar.specs.Combinators.{low_bytes, put_all}
use Rattle.grammar.specs.Number.{shortest, zigzag}
use Rattle.tables.specs.Table.{With}
use Rattle.format.specs.declared.records.NameIndex.{NameIndex}
use Rattle.format.specs.declared.records.Position.{Position}
use Rattle.format.specs.declared.records.Chunk.{Chunk}
use Rattle.format.specs.declared.records.Root.{Root}
use Rattle.format.specs.declared.records.Tail.{Tail}
use Rattle.format.specs.declared.records.Step.{Step}
use Rattle.format.specs.declared.records.Chain.{Chain}
use Rattle.format.specs.declared.records.Case.{Case}
use Rattle.format.specs.declared.records.Range.{Range}
use Rattle.format.specs.declared.records.Input.{Input}
use Rattle.format.specs.declared.records.Site.{Site}
use Rattle.format.specs.declared.records.Access.{Access}
use Rattle.format.specs.declared.records.Function.{Function}
use Rattle.format.specs.Artifact as A
use Rattle.format.specs.File.{magic}
use Rattle.written.specs.Meaning.{Names, Meaning}

-- ── what stands in several sections ──

-- a count of bytes and the bytes; a string is written so too
abbrev pub put_bytes : List ℕ → List ℕ
put_bytes t = shortest (length t) ++ t

-- a count and the records
abbrev pub put_list : {M : Type 0} → (M → List ℕ) → List M → List ℕ
put_list put ms = shortest (length ms) ++ put_all put ms

abbrev pub put_name : NameIndex → List ℕ
put_name name = shortest name.0

-- a position is two smalls; none is 0 0
abbrev pub put_position : Option Position → List ℕ
put_position None = shortest 0 ++ shortest 0
put_position (Some at) = shortest at.line ++ shortest at.column

-- entry, end, and a small slot count
abbrev pub put_chunk : Chunk → List ℕ
put_chunk c = shortest c.entry ++ (shortest c.end ++ shortest c.slots)

-- ── 1. the header: magic, version 11, both widths 8, caps, debug id ──

abbrev pub put_header : A.Header → List ℕ
put_header h = magic ++ (low_bytes 2 11 ++ (8 ∷ 8 ∷ (low_bytes 4 h.caps ++ (low_bytes 8 h.id_low ++ low_bytes 8 h.id_high))))

-- ── 3. names: a count, one end per name, a blob length, the blob ──

abbrev pub put_names : Names → List ℕ
put_names ns = put_list shortest ns.ends ++ put_bytes ns.blob

-- ── 4. constants ──

abbrev pub put_kind : A.Kind → List ℕ
put_kind A.normal = 0x81 ∷ []
put_kind (A.script n) = 0x82 ∷ shortest n

abbrev pub put_constant : (levels : ℕ) → A.Constant (List ℕ) levels → List ℕ
put_constant zero c = []
put_constant (suc levels) A.unit = 0x00 ∷ []
put_constant (suc levels) (A.boolean false) = 0x01 ∷ []
put_constant (suc levels) (A.boolean true) = 0x02 ∷ []
put_constant (suc levels) (A.int n) = 0x03 ∷ shortest (zigzag n)
put_constant (suc levels) (A.float bits) = 0x04 ∷ low_bytes 8 bits
put_constant (suc levels) (A.char code) = 0x05 ∷ shortest code
put_constant (suc levels) (A.str t) = 0x06 ∷ put_bytes t
put_constant (suc levels) (A.array items) = 0x07 ∷ put_list (put_constant levels) items
put_constant (suc levels) (A.map entries) = 0x08 ∷ put_list (λ entry. put_bytes entry.0 ++ put_constant levels entry.1) entries
put_constant (suc levels) (A.blob t) = 0x09 ∷ put_bytes t
put_constant (suc levels) (A.range from to) = 0x0A ∷ (shortest (zigzag from) ++ shortest (zigzag to))
put_constant (suc levels) (A.range_inclusive from to) = 0x0B ∷ (shortest (zigzag from) ++ shortest (zigzag to))
put_constant (suc levels) (A.pointer name curried kind) = 0x0D ∷ (put_bytes name ++ (put_list (put_constant levels) curried ++ put_kind kind))

-- ── 5. operator tokens, then assign records: token, name index, token, name index ──

abbrev pub put_assign : A.Assign (List ℕ) → List ℕ
put_assign a = put_bytes a.op_assign ++ (put_name a.op_assign_name ++ (put_bytes a.op ++ put_name a.op_name))

-- ── 6. chains ──

abbrev pub put_root : Root → List ℕ
put_root (Root.Local slot name) = 1 ∷ (shortest slot ++ put_name name)
put_root Root.Temporary = 2 ∷ []
put_root (Root.Named name at) = 3 ∷ (put_name name ++ put_position at)
put_root (Root.This at) = 4 ∷ put_position at

-- tag, flag byte, then what the tag says
abbrev pub put_step : Step → List ℕ
put_step (Step.Index flags operand at bracket) = 1 ∷ flags ∷ (shortest operand ++ (put_position at ++ put_position bracket))
put_step (Step.Property flags name getter setter at) =
    2 ∷ flags ∷ (put_name name ++ (put_name getter ++ (put_name setter ++ put_position at)))
put_step (Step.Method flags name argc operand at) = 3 ∷ flags ∷ (put_name name ++ (argc ∷ (shortest operand ++ put_position at)))

abbrev pub put_tail : Tail → List ℕ
put_tail Tail.Read = 1 ∷ []
put_tail Tail.Assign = 2 ∷ []
put_tail (Tail.AssignOp op) = 3 ∷ shortest op.0

-- a root, an operand count, steps and a tail
abbrev pub put_chain : With Chain Step → List ℕ
put_chain c = put_root c.whole.root ++ (shortest c.whole.operands ++ (put_list put_step c.items ++ put_tail c.whole.tail))

-- ── 7. switches ──

-- blocks index, constant index
abbrev pub put_case : Case → List ℕ
put_case c = shortest c.blocks ++ shortest c.constant.0

-- two signed numbers, a byte that says inclusive, a target
abbrev pub put_range : Range → List ℕ
put_range r = shortest (zigzag r.from) ++ (shortest (zigzag r.to) ++ ((if r.inclusive then 1 else 0) ∷ shortest r.target))

-- cases, ranges, a default
abbrev pub put_switch : A.Cased → List ℕ
put_switch w = put_list put_case w.cases ++ (put_list put_range w.ranges ++ shortest w.whole.default)

-- ── 8. custom syntax ──

-- FFFFFFFF means none
abbrev pub put_literal : Option ℕ → List ℕ
put_literal None = shortest 0xFFFFFFFF
put_literal (Some index) = shortest index

-- chunk and literal
abbrev pub put_input : Input → List ℕ
put_input i = put_chunk i.chunk ++ put_literal i.literal

-- key, state, inputs
abbrev pub put_site : With Site Input → List ℕ
put_site u = shortest u.whole.key ++ (shortest u.whole.state ++ put_list put_input u.items)

-- ── 9. the main chunk, then functions ──

abbrev pub put_access : Access → List ℕ
put_access Access.Public = shortest 0
put_access Access.Private = shortest 1

-- 0 untyped, else one higher than the index
abbrev pub put_this : Option ℕ → List ℕ
put_this None = shortest 0
put_this (Some index) = shortest (index + 1)

-- name, access, this_type, parameters, chunk
abbrev pub put_function : With Function NameIndex → List ℕ
put_function f =
    put_name f.whole.name ++ (put_access f.whole.access ++ (put_this f.whole.this_type ++ (put_list put_name f.items ++ put_chunk f.whole.chunk)))

-- ── the whole; 2. is the source name, 10. the code and the position table ──

unfoldable pub put : Meaning → List ℕ
put m =
    put_header m.header
    ++ (put_bytes m.source
    ++ (put_names m.names
    ++ (put_list (put_constant A.levels) m.constants
    ++ (put_list put_bytes m.tokens
    ++ (put_list put_assign m.assigns
    ++ (put_list put_chain m.chains
    ++ (put_list put_switch m.switches
    ++ (put_list put_site m.customs
    ++ (put_chunk m.main
    ++ (put_list put_function m.functions
    ++ (put_bytes m.code
    ++ put_bytes m.positions)))))))))))
