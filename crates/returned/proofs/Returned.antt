-- The tables of an accepted read, lent to the writer with the bytes that were read as the text, mean what was read and keep the rules.
use Prim.Native.Nat.{ℕ}
use mathlib.Core.Path.{◌≡◌, sym, ◌∙◌, ap}
use mathlib.Core.List.{List, [], map, foldl, map-map}
use lib.ListN.{length, get_or}
use Rattle.grammar.specs.declared.Cursor.{Cursor}
use Rattle.grammar.specs.Outcome.{got}
use Rattle.tables.specs.Table.{With, count_items}
use Rattle.format.specs.Artifact as A
use Rattle.format.specs.File as definition
use Rattle.format.specs.Rows.{tables_of}
use Rattle.rows.specs.Back as B
use Rattle.rows.specs.Fits.{FitsArtifact}
use Rattle.rows.specs.Given.{Bytes}
use Rattle.stored.proofs.Stored.{each, read_fits, read_back}
use Rattle.written.specs.Meaning.{mean, mean_text, mean_assign}
use Rattle.written.specs.WellFormed.{WellFormed, WellItems}
use Rattle.written.proofs.Accepted.{accepted-well-formed}
use Rattle.model.specs.Lent.{clip}
use Rattle.model.specs.Tables.{shared, shared_cases, assign_means, meaning_of}
use Rattle.model.specs.Written.{broken_of_ten}
use Rattle.reading.specs.Answer.{outside}
use Rattle.promises.specs.Back.{TablesGive, Begin}
use Rattle.promises.proofs.Back.{tables-give}
use Rattle.returned.specs.Lending.{lent_of}
use Rattle.returned.proofs.Texts.{ToldArtifact, read_told}
use Rattle.returned.proofs.Lists.{twice, items-used, cases-used, ranges-used, shared_back, shared-cases-back}
use Rattle.returned.proofs.Means.{token-means, assign-means, constants-mean, built-same}
use Rattle.returned.proofs.Held.{Held, tables-hold}
use Rattle.returned.proofs.Rules.{none-broken}

-- a record with items says how many it has
says : {X Y : Type 0} {Whole : X → Type 0} {count : X → ℕ} {Item : Y → Type 0} (w : With X Y) → WellItems Whole count Item w → count w.whole ≡ length w.items
says w ok = ok.says

module _ (places : A.Places) (mask : ℕ) (s : List ℕ) (bytes : Bytes s) (a : A.Artifact) (last : Cursor) (read : definition.read places mask s ≡ got a last)
    (tables : List (List ℕ)) (begins : Begin tables (tables_of a)) where
  told : ToldArtifact s a
  told = read_told places mask s a last read

  well : WellFormed places mask (mean a)
  well = accepted-well-formed places mask s bytes a last read

  give : TablesGive a tables
  give = tables-give a tables (read_back places mask s bytes a last read) begins

  -- ── what the tables mean ──

  tokens-mean : map (λ row. clip s (B.span_of row)) (B.cut 2 (length a.tokens) (get_or tables 2 [])) ≡ map mean_text a.tokens
  tokens-mean =
      sym (map-map (clip s) B.span_of (B.cut 2 (length a.tokens) (get_or tables 2 []))) ∙ ap (map (clip s)) give.tokens
      ∙ twice _ _ _ (token-means s) a.tokens told.tokens

  assigns-mean : map (λ row. assign_means s (B.assign_of row)) (B.cut 6 (length a.assigns) (get_or tables 3 [])) ≡ map mean_assign a.assigns
  assigns-mean =
      sym (map-map (assign_means s) B.assign_of (B.cut 6 (length a.assigns) (get_or tables 3 []))) ∙ ap (map (assign_means s)) give.assigns
      ∙ twice _ _ _ (assign-means s) a.assigns told.assigns

  chains-mean : shared (λ c. c.steps) (map B.chain_of (B.cut 9 (length a.chains) (get_or tables 4 [])))
      (map B.step_of (B.cut 11 (foldl count_items 0 a.chains) (get_or tables 5 [])))
      ≡ a.chains
  chains-mean =
      rw (give.chains, items-used a.chains, give.steps)
      (shared_back _ a.chains (each says a.chains well.chains.list.each))

  customs-mean : shared (λ u. u.inputs) (map B.site_of (B.cut 3 (length a.customs) (get_or tables 9 [])))
      (map B.input_of (B.cut 5 (foldl count_items 0 a.customs) (get_or tables 10 [])))
      ≡ a.customs
  customs-mean =
      rw (give.customs, items-used a.customs, give.inputs)
      (shared_back _ a.customs (each says a.customs well.customs.list.each))

  functions-mean : shared (λ f. f.parameters) (map B.function_of (B.cut 7 (length a.functions) (get_or tables 11 [])))
      (map B.parameter_of (B.cut 1 (foldl count_items 0 a.functions) (get_or tables 12 [])))
      ≡ a.functions
  functions-mean =
      rw (give.functions, items-used a.functions, give.parameters)
      (shared_back _ a.functions (each says a.functions well.functions.list.each))

  switches-mean : shared_cases (map B.switch_of (B.cut 3 (length a.switches) (get_or tables 6 [])))
      (map B.case_of (B.cut 2 (outside a).used.cases (get_or tables 7 []))) (map B.range_of (B.cut 4 (outside a).used.ranges (get_or tables 8 [])))
      ≡ a.switches
  switches-mean =
      rw (give.switches, cases-used a.switches, ranges-used a.switches, give.cases, give.ranges)
      (shared-cases-back a.switches (each (λ w ok. (ok.says_cases, ok.says_ranges)) a.switches well.switches.list.each))

  pub means-what-was-read : meaning_of (lent_of (outside a) tables s) ≡ mean a
  unfolding meaning_of
  means-what-was-read =
      built-same (sym told.source.stands.is) give.names (sym told.blob.stands.is) (constants-mean s A.levels _ a.constants give.constants told.constants)
      tokens-mean assigns-mean chains-mean switches-mean customs-mean functions-mean (sym told.code.is) (sym told.positions.is)

  -- ── the rules ──

  held : Held a tables
  held = tables-hold a tables begins

  fits : FitsArtifact a
  fits = read_fits places mask s bytes a last read

  pub rules-hold : broken_of_ten mask (lent_of (outside a) tables s) ≡ 0
  rules-hold = none-broken places mask s a tables told fits well held
