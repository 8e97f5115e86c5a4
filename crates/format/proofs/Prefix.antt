-- The prefix law of each section and of the whole file, by the laws of the combinators.
use Prim.Native.Nat.{ℕ, zero, suc}
use Rattle.grammar.specs.Outcome.{Parser}
use Rattle.grammar.specs.Prefix.{Whole}
use Rattle.grammar.proofs.Prefix.{whole-rules, whole-pure, whole-refuse}
use Rattle.refusal.specs.declared.Refusal.{Refusal}
use Rattle.std.specs.Prelude.{Result, Ok, Err}
use Rattle.tables.specs.Table.{records, Used, nested}
use Rattle.format.specs.File.{string, bytes, list, name_index, position, chunk, header, names, kind, constant, constants, tokens, assign, assigns, root, step, tail, chain, chains, case, case_range, switch, switches, input, site, customs, access, this_type, function, functions, sound, positions, artifact}
use Rattle.format.specs.Artifact.{Places}

whole-bytes : Whole bytes
unfolding bytes
whole-bytes = search whole-rules depth 30

whole-string : Whole string
unfolding string
whole-string = search (whole-bytes, whole-rules) depth 30

whole-records : {A : Type 0} {p : Parser A} (table places n used : ℕ) → Whole p → Whole (records table places p n used)
unfolding records
whole-records table places n used wp = search whole-rules depth 30

whole-nested : {A S : Type 0} (next : S → A → S) {p : S → Parser A} (table places n : ℕ) (used : Used S) → ((inner : S) → Whole (p inner)) →
    Whole (nested next table places p n used)
unfolding nested
whole-nested next table places n used wp = search whole-rules depth 30

whole-list : {A : Type 0} {p : Parser A} (table places used : ℕ) → Whole p → Whole (list table places p used)
unfolding list
whole-list table places used wp = search (whole-records, whole-rules) depth 30

whole-name_index : Whole name_index
unfolding name_index
whole-name_index = search whole-rules depth 30

whole-position : Whole position
unfolding position
whole-position = search whole-rules depth 30

whole_chunk : Whole chunk
unfolding chunk
whole_chunk = search whole-rules depth 30

ruleset parts = (whole-string, whole-bytes, whole-records, whole-nested, whole-list, whole-name_index, whole-position, whole_chunk, whole-rules)

whole-header : Whole header
unfolding header
whole-header = search parts depth 40

whole-names : (places : ℕ) → Whole (names places)
unfolding names
whole-names places = search parts depth 40

whole-kind : Whole kind
unfolding kind
whole-kind = search parts depth 30

whole-constant : (places levels used : ℕ) → Whole (constant places levels used)
unfolding constant
whole-constant places zero used = whole-refuse _
whole-constant places (suc levels) used = let inner = whole-constant places levels in search (whole-kind, parts) depth 60

whole-constants : (places : ℕ) → Whole (constants places)
unfolding constants
whole-constants places = let inner = whole-constant places 65 in search parts depth 30

whole-tokens : (places : ℕ) → Whole (tokens places)
unfolding tokens
whole-tokens places = search parts depth 30

whole-assign : Whole assign
unfolding assign
whole-assign = search parts depth 30

whole-assigns : (places : ℕ) → Whole (assigns places)
unfolding assigns
whole-assigns places = search (whole-assign, parts) depth 30

whole-root : Whole root
unfolding root
whole-root = search parts depth 30

whole-step : (mask : ℕ) → Whole (step mask)
unfolding step
whole-step mask = search parts depth 30

whole-tail : Whole tail
unfolding tail
whole-tail = search parts depth 30

whole-chains : (places step_places mask : ℕ) → Whole (chains places step_places mask)
unfolding chains chain
whole-chains places step_places mask = search (whole-root, whole-step, whole-tail, parts) depth 40

whole-case : (tops : ℕ) → Whole (case tops)
unfolding case
whole-case tops = search parts depth 30

whole-case_range : Whole case_range
unfolding case_range
whole-case_range = search parts depth 30

whole-switches : (places case_places range_places tops : ℕ) → Whole (switches places case_places range_places tops)
unfolding switches switch
whole-switches places case_places range_places tops = search (whole-case, whole-case_range, parts) depth 40

whole-input : Whole input
unfolding input
whole-input = search parts depth 30

whole-customs : (places input_places : ℕ) → Whole (customs places input_places)
unfolding customs site
whole-customs places input_places = search (whole-input, parts) depth 40

whole-access : Whole access
unfolding access
whole-access = search parts depth 30

whole-this_type : Whole this_type
unfolding this_type
whole-this_type = search parts depth 30

whole-functions : (places parameter_places : ℕ) → Whole (functions places parameter_places)
unfolding functions function
whole-functions places parameter_places = search (whole-access, whole-this_type, parts) depth 40

whole-sound : (answer : Result Unit Refusal) → Whole (sound answer)
unfolding sound
whole-sound (Ok tt) = whole-pure tt
whole-sound (Err r) = whole-refuse r

whole-positions : Whole positions
unfolding positions
whole-positions = search (whole-sound, parts) depth 30

pub whole-artifact : (places : Places) (mask : ℕ) → Whole (artifact places mask)
unfolding artifact
whole-artifact places mask =
    search (whole-header, whole-names, whole-constants, whole-tokens, whole-assigns, whole-chains, whole-switches, whole-customs, whole-functions, whole-positions, parts) depth 60
