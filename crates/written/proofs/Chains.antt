-- Chains are given back: roots, steps, tails.
use Prim.Native.Nat.{ℕ, ◌≤◌}
use mathlib.Core.Path.{refl}
use mathlib.Core.List.{List}
use native.Mathlib.Omega.{arith}
use borrow.Author.Tests.{eq-eqb}
use Rattle.grammar.specs.Combinators.{◌⇒◌∣◌}
use Rattle.grammar.specs.RoundTrip.{Gives}
use Rattle.grammar.proofs.RoundTrip.{itself, gives-pure, gives-check-then, gives-byte-then}
use Rattle.tables.specs.Table.{With, count_items}
use Rattle.format.specs.declared.records.Root.{Root}
use Rattle.format.specs.declared.records.Tail.{Tail}
use Rattle.format.specs.declared.records.Step.{Step}
use Rattle.format.specs.declared.records.Chain.{Chain}
use Rattle.format.specs.File as definition
use Rattle.rows.specs.Fits.{FitsRoot, FitsTail}
use Rattle.written.specs.Put.{put_list, put_root, put_tail, put_step, put_chain}
use Rattle.written.specs.WellFormed.{WellStep, WellChain, WellWith}
use Rattle.written.proofs.Parts.{gives_then, gives-end, gives-index, gives-small, gives-name, gives-position}
use Rattle.written.proofs.Lists.{gives-themselves, gives-list, gives-nested}

gives-root : {s : List ℕ} (r : Root) → FitsRoot r → Gives itself s definition.root (put_root r) r
unfolding definition.root ◌⇒◌∣◌
gives-root (Root.Local slot name) fits = gives-byte-then _ 1 (gives_then _ (gives-small fits.0) (gives-end _ (gives-name name fits.1) refl))
gives-root Root.Temporary fits = gives-byte-then _ 2 (gives-pure _ refl)
gives-root (Root.Named name at) fits = gives-byte-then _ 3 (gives_then _ (gives-name name fits.0) (gives-end _ (gives-position at fits.1) refl))
gives-root (Root.This at) fits = gives-byte-then _ 4 (gives-end _ (gives-position at fits) refl)

gives-tail : {s : List ℕ} (t : Tail) → FitsTail t → Gives itself s definition.tail (put_tail t) t
unfolding definition.tail ◌⇒◌∣◌
gives-tail Tail.Read fits = gives-byte-then _ 1 (gives-pure _ refl)
gives-tail Tail.Assign fits = gives-byte-then _ 2 (gives-pure _ refl)
gives-tail (Tail.AssignOp op) fits = gives-byte-then _ 3 (gives-end _ (gives-index fits) refl)

gives-step : {s : List ℕ} (mask : ℕ) (st : Step) → WellStep mask st → Gives itself s (definition.step mask) (put_step st) st
unfolding definition.step ◌⇒◌∣◌
gives-step mask (Step.Index flags operand at bracket) ok =
    gives-byte-then _ 1 (gives-byte-then _ flags (gives-check-then _ _ (eq-eqb _ _ ok.masked)
    (gives_then _ (gives-small ok.fits.1.0) (gives_then _ (gives-position at ok.fits.1.1.0)
    (gives-end _ (gives-position bracket ok.fits.1.1.1) refl)))))
gives-step mask (Step.Property flags name getter setter at) ok =
    gives-byte-then _ 2 (gives-byte-then _ flags (gives-check-then _ _ (eq-eqb _ _ ok.masked)
    (gives_then _ (gives-name name ok.fits.1.0) (gives_then _ (gives-name getter ok.fits.1.1.0) (gives_then _ (gives-name setter ok.fits.1.1.1.0)
    (gives-end _ (gives-position at ok.fits.1.1.1.1) refl))))))
gives-step mask (Step.Method flags name argc operand at) ok =
    gives-byte-then _ 3 (gives-byte-then _ flags (gives-check-then _ _ (eq-eqb _ _ ok.masked)
    (gives_then _ (gives-name name ok.fits.1.0) (gives-byte-then _ argc (gives_then _ (gives-small ok.fits.1.1.1.0)
    (gives-end _ (gives-position at ok.fits.1.1.1.1) refl))))))

gives-chain : {s : List ℕ} (step_places mask : ℕ) (c : With Chain Step) (used : ℕ) → WellChain mask c → count_items used c ≤ step_places →
    Gives itself s (definition.chain step_places mask used) (put_chain c) c
unfolding definition.chain
gives-chain step_places mask c used ok room =
    gives_then _ (gives-root c.whole.root ok.fits.whole.root) (gives_then _ (gives-small ok.fits.whole.operands)
    (gives_then _ (gives-themselves (gives-list itself 6 step_places (gives-step mask) c.items used ok.counted room ok.fits.items))
    (gives-end _ (gives-tail c.whole.tail ok.fits.whole.tail) (rw (← ok.says)))))

pub gives-chains : {s : List ℕ} (places step_places mask : ℕ) (ls : List (With Chain Step)) → WellWith places step_places (WellChain mask) ls →
    Gives itself s (definition.chains places step_places mask) (put_list put_chain ls) ls
unfolding definition.chains
gives-chains places step_places mask ls ok =
    gives-nested count_items (λ used. used ≤ step_places) 5 places (λ used c r. omega arith) (gives-chain step_places mask) 0 ls ok.list ok.item_room
