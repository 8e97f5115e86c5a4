-- What all rules together ask of the rows of each table: a table is looked at once.
use Rattle.std.specs.Prelude.{ℕ, Bool, not, ◌&&◌, ◌||◌, List, ltb, eqb}
use Rattle.grammar.specs.declared.Span.{Span}
use Rattle.format.specs.File.{scalar}
use Rattle.rows.specs.Back.{word}
use Rattle.model.specs.Lent.{Lent, constant_rows, token_rows, assign_rows, chain_rows, step_rows, switch_rows, case_rows, range_rows, custom_rows, input_rows, function_rows, parameter_rows, every}
use Rattle.model.specs.Rules.{tag, lies, is_text, span_at, named, texted, keyed, known_constant, known_chain, known_step, known_function, sound_assign, sound_chain, sound_step, sound_switch, sound_case, sound_range, sound_site, sound_input, sound_function, sound_word}

-- 2 and 3
abbrev pub text_keeps : List ℕ → Span → Bool
text_keeps text span = lies text span && is_text text span

-- 2, 3, 5 and 7
abbrev pub constant_keeps : List ℕ → List ℕ → Bool
constant_keeps text row =
    ((not (texted (tag row)) || lies text (span_at 3 row)) && (not (named (tag row)) || is_text text (span_at 3 row)))
    && (known_constant row && (not (eqb (tag row) 0x05) || scalar (word row 1)))

-- 2, 3 and 9
abbrev pub assign_keeps : List ℕ → List ℕ → Bool
assign_keeps text row = sound_assign row && (text_keeps text (span_at 0 row) && text_keeps text (span_at 3 row))

-- 2, 3, 5, 7 and 9
abbrev pub texts_keep : Lent → Bool
texts_keep m =
    (every (constant_keeps m.text) (constant_rows m) && every (λ row. text_keeps m.text (span_at 6 row)) (keyed (constant_rows m)))
    && (every (λ row. text_keeps m.text (span_at 0 row)) (token_rows m) && every (assign_keeps m.text) (assign_rows m))

-- 5 and 9
abbrev pub links_keep : ℕ → Lent → Bool
links_keep mask m =
    every (λ row. known_chain row && sound_chain row) (chain_rows m) && every (λ row. known_step mask row && sound_step row) (step_rows m)

-- 8 and 9
abbrev pub switches_keep : Lent → Bool
switches_keep m =
    every sound_switch (switch_rows m)
    && (every (λ row. ltb (word row 1) m.outside.tops && sound_case row) (case_rows m) && every sound_range (range_rows m))

-- 5 and 9
abbrev pub callables_keep : Lent → Bool
callables_keep m =
    (every sound_site (custom_rows m) && every sound_input (input_rows m))
    && (every (λ row. known_function row && sound_function row) (function_rows m) && every sound_word (parameter_rows m))
