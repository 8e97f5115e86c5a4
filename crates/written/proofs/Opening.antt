-- The header, names, tokens and assign records are given back.
use Prim.Native.Nat.{ℕ, ◌≤◌}
use mathlib.Core.Path.{refl, sym, ◌∙◌, ap}
use mathlib.Core.List.{List, [], ◌∷◌, append-nil, append_assoc, map}
use native.Mathlib.Omega.{arith}
use lib.ListN.{length, length-append}
use borrow.Author.Tests.{eq-eqb}
use Rattle.grammar.specs.Combinators.{put_all}
use Rattle.grammar.specs.Number.{shortest}
use Rattle.grammar.specs.RoundTrip.{Gives}
use Rattle.grammar.proofs.RoundTrip.{itself, gives-pure, gives-bind, gives-check-then, gives-left-then, gives-byte-then, gives-text-then, gives-fixed}
use Rattle.grammar.proofs.Shortest.{shortest-some}
use Rattle.utf8.specs.Check.{is_utf8}
use Rattle.format.specs.Artifact as A
use Rattle.format.specs.File as definition
use Rattle.written.specs.Meaning.{Names, mean_text, mean_names, mean_assign}
use Rattle.written.specs.Put.{put_bytes, put_list, put_header, put_names, put_assign}
use Rattle.written.specs.WellFormed.{WellHeader, WellString, WellList, WellNames, WellAssign}
use Rattle.written.proofs.Parts.{gives_then, gives-end, gives-count, gives-index, gives-bytes, gives-string, gives-name}
use Rattle.written.proofs.Lists.{gives-themselves, gives-records, gives-top}

pub gives-header : {s : List ℕ} (h : A.Header) → WellHeader h → Gives itself s definition.header (put_header h) h
unfolding definition.header
gives-header h ok =
    gives-text-then definition.magic _ (λ m e. gives-check-then _ _ (ap (λ t. definition.same_bytes t definition.magic) e)
    (gives_then _ (gives-fixed 2 11 (omega arith)) (gives-check-then _ _ refl
    (gives-byte-then _ 8 (gives-byte-then _ 8
    (gives_then _ (gives-fixed 4 h.caps (omega (arith, ok.caps.below))) (gives-check-then _ _ refl
    (gives_then _ (gives-fixed 8 h.id_low (omega (arith, ok.id_low.below)))
    (gives-end _ (gives-fixed 8 h.id_high (omega (arith, ok.id_high.below))) refl)))))))))

-- a number takes at least a byte
ends-long : (ends : List ℕ) → length ends ≤ length (put_all shortest ends)
ends-long [] = omega arith
ends-long (end ∷ ends) = omega (arith, length-append (shortest end) (put_all shortest ends), shortest-some end, ends-long ends)

pub gives-names : {s : List ℕ} (places : ℕ) (ns : Names) → WellNames places ns → Gives mean_names s (definition.names places) (put_names ns) ns
unfolding definition.names
gives-names places ns ok =
    rw (append_assoc (shortest (length ns.ends)) (put_all shortest ns.ends) (put_bytes ns.blob))
    (gives_then _ (gives-count ok.ends.counted)
    (gives-left-then _ (omega (arith, length-append (put_all shortest ns.ends) (put_bytes ns.blob), ends-long ns.ends))
    (gives_then _ (gives-themselves (gives-records itself 1 places (λ m fits. gives-index fits) ns.ends 0 (omega (arith, ok.ends.room)) ok.ends.each))
    (rw (← append-nil (put_bytes ns.blob))
    (gives-bind mean_text mean_names (put_bytes ns.blob) [] ns.blob (gives-bytes ns.blob ok.blob.counted) (λ all e.
    gives-check-then _ _ ok.rises (gives-check-then _ _ (eq-eqb _ _ (ok.last ∙ ap length (sym e)))
    (gives-check-then _ _ (ap is_utf8 e ∙ ok.blob.utf8) (gives-pure _ (ap (λ t. record { ends = ns.ends; blob = t }) e))))))))))

pub gives-tokens : {s : List ℕ} (places : ℕ) (ts : List (List ℕ)) → WellList places WellString ts →
    Gives (map mean_text) s (definition.tokens places) (put_list put_bytes ts) ts
unfolding definition.tokens
gives-tokens places ts ok = gives-top mean_text 3 places gives-string ts ok

gives-assign : {s : List ℕ} (a : A.Assign (List ℕ)) → WellAssign a → Gives mean_assign s definition.assign (put_assign a) a
unfolding definition.assign
gives-assign a ok =
    gives-bind mean_text mean_assign _ _ _ (gives-string a.op_assign ok.op_assign) (λ op_assign e.
    gives_then _ (gives-name a.op_assign_name ok.fits.op_assign_name)
    (gives-bind mean_text mean_assign _ _ _ (gives-string a.op ok.op) (λ op f.
    gives-end _ (gives-name a.op_name ok.fits.op_name) (rw (e, f)))))

pub gives-assigns : {s : List ℕ} (places : ℕ) (os : List (A.Assign (List ℕ))) → WellList places WellAssign os →
    Gives (map mean_assign) s (definition.assigns places) (put_list put_assign os) os
unfolding definition.assigns
gives-assigns places os ok = gives-top mean_assign 4 places gives-assign os ok
