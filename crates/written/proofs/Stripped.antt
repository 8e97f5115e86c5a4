-- What is well-formed is so when stripped.
use Prim.Native.Nat.{ℕ, ◌+◌}
use mathlib.Core.Path.{◌≡◌, refl, sym, ◌∙◌, ap}
use mathlib.Core.Logic.{inl}
use mathlib.Core.List.{List, [], ◌∷◌, map}
use native.Mathlib.Omega.{arith}
use lib.ListN.{length}
use Rattle.grammar.specs.Combinators.{Each}
use Rattle.tables.specs.Table.{With, count_items}
use Rattle.format.specs.declared.records.Root.{Root}
use Rattle.format.specs.declared.records.Step.{Step}
use Rattle.format.specs.declared.records.Chain.{Chain}
use Rattle.format.specs.Artifact as A
use Rattle.rows.specs.Fits.{FitsRoot}
use Rattle.written.specs.Meaning.{Meaning}
use Rattle.written.specs.WellFormed.{WellStep, WellChain, WellWith, WellFormed}
use Rattle.written.specs.Strip.{strip_root, strip_step, strip_chain, strip}
use Rattle.written.proofs.Lists.{length-map, all_same}

-- what is kept of each record is kept of each of a list
each-kept : {X Y : Type 0} (f : X → Y) (Ok : X → Type 0) (Also : Y → Type 0) → ((x : X) → Ok x → Also (f x)) → (xs : List X) → Each Ok xs → Each Also (map f xs)
each-kept f Ok Also one [] ok = tt
each-kept f Ok Also one (x ∷ xs) ok = (one x ok.0, each-kept f Ok Also one xs ok.1)

root-stripped : (r : Root) → FitsRoot r → FitsRoot (strip_root r)
root-stripped (Root.Local slot name) fits = fits
root-stripped Root.Temporary fits = tt
root-stripped (Root.Named name at) fits = (fits.0, tt)
root-stripped (Root.This at) fits = tt

step-stripped : (mask : ℕ) (st : Step) → WellStep mask st → WellStep mask (strip_step st)
step-stripped mask (Step.Index flags operand at bracket) ok = record { fits = (ok.fits.0, (ok.fits.1.0, (tt, tt))); masked = ok.masked }
step-stripped mask (Step.Property flags name getter setter at) ok =
    record { fits = (ok.fits.0, (ok.fits.1.0, (ok.fits.1.1.0, (ok.fits.1.1.1.0, tt)))); masked = ok.masked }
step-stripped mask (Step.Method flags name argc operand at) ok =
    record { fits = (ok.fits.0, (ok.fits.1.0, (ok.fits.1.1.0, (ok.fits.1.1.1.0, tt)))); masked = ok.masked }

chain-stripped : (mask : ℕ) (c : With Chain Step) → WellChain mask c → WellChain mask (strip_chain c)
chain-stripped mask c ok =
    let same : length (map strip_step c.items) ≡ length c.items = length-map strip_step c.items in
    record {
      fits = record {
        whole = record {
          root = root-stripped c.whole.root ok.fits.whole.root;
          operands = ok.fits.whole.operands;
          tail = ok.fits.whole.tail;
        };
        items = each-kept strip_step (WellStep mask) (WellStep mask) (step-stripped mask) c.items ok.fits.items;
      };
      says = ok.says ∙ sym same;
      counted = rw same ok.counted;
    }

steps-same : (used : ℕ) (c : With Chain Step) → count_items used c ≡ count_items used (strip_chain c)
steps-same used c = ap (λ n. used + n) (sym (length-map strip_step c.items))

chains-stripped : (places step_places mask : ℕ) (cs : List (With Chain Step)) → WellWith places step_places (WellChain mask) cs →
    WellWith places step_places (WellChain mask) (map strip_chain cs)
chains-stripped places step_places mask cs ok =
    let same : length (map strip_chain cs) ≡ length cs = length-map strip_chain cs in
    record {
      list = record {
        counted = rw same ok.list.counted;
        room = rw same ok.list.room;
        each = each-kept strip_chain (WellChain mask) (WellChain mask) (chain-stripped mask) cs ok.list.each;
      };
      item_room = rw (← all_same strip_chain count_items count_items steps-same cs 0) ok.item_room;
    }

pub stripped-well-formed : (P : A.Places) (mask : ℕ) (m : Meaning) → WellFormed P mask m → WellFormed P mask (strip m)
unfolding strip
stripped-well-formed P mask m ok =
    record {
      header = ok.header;
      source = ok.source;
      names = ok.names;
      constants = ok.constants;
      tokens = ok.tokens;
      assigns = ok.assigns;
      chains = chains-stripped P.chains P.steps mask m.chains ok.chains;
      switches = ok.switches;
      customs = ok.customs;
      main = ok.main;
      functions = ok.functions;
      code = ok.code;
      positions = record { counted = omega arith; sound = inl refl };
    }
