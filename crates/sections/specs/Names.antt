-- What a read of the names answers and leaves.
use Rattle.std.specs.Prelude.{ℕ, Result, Option, Some, None, ◌≡◌, List, length, leb, if◌then◌else◌}
use Rattle.std.proofs.lemmas.List.Edits.{sets}
use Rattle.refusal.specs.declared.Refusal.{Refusal}
use Rattle.grammar.specs.declared.Cursor.{Cursor}
use Rattle.grammar.specs.Outcome.{Outcome, got, refused}
use Rattle.grammar.specs.Combinators.{Text, text_at}
use Rattle.grammar.specs.Read.{answer_as, answer}
use Rattle.tables.specs.Table.{rows}
use Rattle.format.specs.Artifact as A
use Rattle.format.specs.File as definition
use Rattle.format.specs.Rows.{end_row}
use Rattle.sections.specs.declared.names.NameList.{NameList}

-- the last of a list of ends, or 0, and nothing where one fell; and of it with one end more
abbrev pub last_of : List ℕ → Option ℕ
last_of ends = if definition.rising 0 ends then Some (definition.last_end 0 ends) else None

abbrev pub joined : Option ℕ → ℕ → Option ℕ
joined (Some last) end = if leb last end then Some end else None
joined None end = None

-- so many ends, and the last
abbrev pub ends_behind : Outcome (List ℕ) → Outcome (ℕ × Option ℕ)
ends_behind (got ends next) = got (length ends, last_of ends) next
ends_behind (refused r) = refused r

-- the ends were read: the answer, and what the table holds where they were got
pub record LeftEnds (o : Outcome (List ℕ)) (entry exit : List ℕ) (r : Result ((ℕ × Option ℕ) × Cursor) Refusal) : Type 0 where
  pub result : ends_behind o ≡ answer r
  pub table : (ends : List ℕ) (next : Cursor) → o ≡ got ends next → exit ≡ sets entry 0 (rows end_row ends)

-- so many names, and their blob
pub record Named : Type 0 where
  pub used : ℕ
  pub blob : Text

abbrev pub names_behind : Outcome A.Names → Outcome Named
names_behind (got names next) = got (record { used = length names.ends; blob = names.blob }) next
names_behind (refused r) = refused r

abbrev pub names_is : List ℕ → Result (NameList × Cursor) Refusal → Outcome Named
names_is s = answer_as (λ names. record { used = names.used; blob = text_at s names.blob })

-- the names were read: the answer, and what the table of their ends holds where they were got
pub record LeftNames (o : Outcome A.Names) (s entry exit : List ℕ) (r : Result (NameList × Cursor) Refusal) : Type 0 where
  pub result : names_behind o ≡ names_is s r
  pub table : (names : A.Names) (next : Cursor) → o ≡ got names next → exit ≡ sets entry 0 (rows end_row names.ends)
