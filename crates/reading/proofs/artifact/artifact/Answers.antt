-- Each exit is the refusal of the section that stopped, behind those that were got.
use Rattle.std.proofs.Common.{◌≡◌, refl, ap, length}
use Rattle.grammar.specs.Outcome.{◌>>=◌}
use Rattle.grammar.specs.Combinators.{text_at}
use Rattle.tables.proofs.Got.{list-got, list-refused, both-got, both-refused}
use Rattle.format.specs.Artifact as A
use Rattle.format.specs.File.{artifact}
use Rattle.constants.specs.declared.Counts.{Counts}
use Rattle.sections.specs.Answers.{header_of}
use Rattle.reading.proofs.Behind.{both}
use Rattle.reading.proofs.Got.{Pool, counts_of, told_all, names-got, names-refused, constants-got, constants-refused, cases-got, cases-refused}
use Rattle.reading.proofs.Whole.{all-got, section-refused, end-refused, all-read}
use Rattle.reading.proofs.artifact.artifact.Goals as goal

tops : (cs : Pool) (counts : Counts) → counts_of cs ≡ counts → length cs ≡ counts.tops
tops cs counts e = ap (λ n. n.tops) e

pub returns-in_err-header : goal.returns-in_err-header
unfolding artifact ◌>>=◌
returns-in_err-header c =
    section-refused c.args.mask c.args.s.now _ c.from_residual.ensures.1 (rw ((rw c.new.ensures at c.in_err-header.ensures)))

pub returns-in_err-source : goal.returns-in_err-source
unfolding artifact ◌>>=◌
returns-in_err-source c =
    section-refused c.args.mask c.args.s.now _ c.from_residual-in_err-source.ensures.1 (rw (
      (rw c.new.ensures at c.in_ok-header.ensures),
      c.in_err-source.ensures,
    ))

pub returns-in_err-named : goal.returns-in_err-named
unfolding artifact ◌>>=◌
returns-in_err-named c =
    section-refused c.args.mask c.args.s.now _ c.from_residual-in_err-named.ensures.1 (rw (
      (rw c.new.ensures at c.in_ok-header.ensures),
      c.in_ok-source.ensures,
      names-refused c.names.ensures c.in_err-named.was,
    ))

pub returns-in_err-pool : goal.returns-in_err-pool
unfolding artifact ◌>>=◌
returns-in_err-pool c =
    section-refused c.args.mask c.args.s.now _ c.from_residual-in_err-pool.ensures.1 (rw (
      (rw c.new.ensures at c.in_ok-header.ensures),
      c.in_ok-source.ensures,
      (names-got c.names.ensures c.in_ok-named.was).is,
      constants-refused c.constants.ensures c.in_err-pool.was,
    ))

pub returns-in_err-tokens : goal.returns-in_err-tokens
unfolding artifact ◌>>=◌
returns-in_err-tokens c =
    section-refused c.args.mask c.args.s.now _ c.from_residual-in_err-tokens.ensures.1 (rw (
      (rw c.new.ensures at c.in_ok-header.ensures),
      c.in_ok-source.ensures,
      (names-got c.names.ensures c.in_ok-named.was).is,
      (constants-got c.constants.ensures c.in_ok-pool.was).is,
      list-refused c.tokens.ensures c.in_err-tokens.was,
    ))

pub returns-in_err-assigns : goal.returns-in_err-assigns
unfolding artifact ◌>>=◌
returns-in_err-assigns c =
    section-refused c.args.mask c.args.s.now _ c.from_residual-in_err-assigns.ensures.1 (rw (
      (rw c.new.ensures at c.in_ok-header.ensures),
      c.in_ok-source.ensures,
      (names-got c.names.ensures c.in_ok-named.was).is,
      (constants-got c.constants.ensures c.in_ok-pool.was).is,
      (list-got c.tokens.ensures c.in_ok-tokens.was).is,
      list-refused c.assigns.ensures c.in_err-assigns.was,
    ))

pub returns-in_err-chains : goal.returns-in_err-chains
unfolding artifact ◌>>=◌
returns-in_err-chains c =
    section-refused c.args.mask c.args.s.now _ c.from_residual-in_err-chains.ensures.1 (rw (
      (rw c.new.ensures at c.in_ok-header.ensures),
      c.in_ok-source.ensures,
      (names-got c.names.ensures c.in_ok-named.was).is,
      (constants-got c.constants.ensures c.in_ok-pool.was).is,
      (list-got c.tokens.ensures c.in_ok-tokens.was).is,
      (list-got c.assigns.ensures c.in_ok-assigns.was).is,
      both-refused c.chains.ensures c.in_err-chains.was,
    ))

pub returns-in_err-switched : goal.returns-in_err-switched
unfolding artifact ◌>>=◌
returns-in_err-switched c =
    section-refused c.args.mask c.args.s.now _ c.from_residual-in_err-switched.ensures.1 (rw (
      (rw c.new.ensures at c.in_ok-header.ensures),
      c.in_ok-source.ensures,
      (names-got c.names.ensures c.in_ok-named.was).is,
      (constants-got c.constants.ensures c.in_ok-pool.was).is,
      (list-got c.tokens.ensures c.in_ok-tokens.was).is,
      (list-got c.assigns.ensures c.in_ok-assigns.was).is,
      (both-got c.chains.ensures c.in_ok-chains.was).is,
      tops _ _ (constants-got c.constants.ensures c.in_ok-pool.was).fact,
      cases-refused c.switches.ensures c.in_err-switched.was,
    ))

pub returns-in_err-customs : goal.returns-in_err-customs
unfolding artifact ◌>>=◌
returns-in_err-customs c =
    section-refused c.args.mask c.args.s.now _ c.from_residual-in_err-customs.ensures.1 (rw (
      (rw c.new.ensures at c.in_ok-header.ensures),
      c.in_ok-source.ensures,
      (names-got c.names.ensures c.in_ok-named.was).is,
      (constants-got c.constants.ensures c.in_ok-pool.was).is,
      (list-got c.tokens.ensures c.in_ok-tokens.was).is,
      (list-got c.assigns.ensures c.in_ok-assigns.was).is,
      (both-got c.chains.ensures c.in_ok-chains.was).is,
      tops _ _ (constants-got c.constants.ensures c.in_ok-pool.was).fact,
      (cases-got c.switches.ensures c.in_ok-switched.was).is,
      both-refused c.customs.ensures c.in_err-customs.was,
    ))

pub returns-in_err-main : goal.returns-in_err-main
unfolding artifact ◌>>=◌
returns-in_err-main c =
    section-refused c.args.mask c.args.s.now _ c.from_residual-in_err-main.ensures.1 (rw (
      (rw c.new.ensures at c.in_ok-header.ensures),
      c.in_ok-source.ensures,
      (names-got c.names.ensures c.in_ok-named.was).is,
      (constants-got c.constants.ensures c.in_ok-pool.was).is,
      (list-got c.tokens.ensures c.in_ok-tokens.was).is,
      (list-got c.assigns.ensures c.in_ok-assigns.was).is,
      (both-got c.chains.ensures c.in_ok-chains.was).is,
      tops _ _ (constants-got c.constants.ensures c.in_ok-pool.was).fact,
      (cases-got c.switches.ensures c.in_ok-switched.was).is,
      (both-got c.customs.ensures c.in_ok-customs.was).is,
      c.in_err-main.ensures,
    ))

pub returns-in_err-functions : goal.returns-in_err-functions
unfolding artifact ◌>>=◌
returns-in_err-functions c =
    section-refused c.args.mask c.args.s.now _ c.from_residual-in_err-functions.ensures.1 (rw (
      (rw c.new.ensures at c.in_ok-header.ensures),
      c.in_ok-source.ensures,
      (names-got c.names.ensures c.in_ok-named.was).is,
      (constants-got c.constants.ensures c.in_ok-pool.was).is,
      (list-got c.tokens.ensures c.in_ok-tokens.was).is,
      (list-got c.assigns.ensures c.in_ok-assigns.was).is,
      (both-got c.chains.ensures c.in_ok-chains.was).is,
      tops _ _ (constants-got c.constants.ensures c.in_ok-pool.was).fact,
      (cases-got c.switches.ensures c.in_ok-switched.was).is,
      (both-got c.customs.ensures c.in_ok-customs.was).is,
      c.in_ok-main.ensures,
      both-refused c.functions.ensures c.in_err-functions.was,
    ))

pub returns-in_err-code : goal.returns-in_err-code
unfolding artifact ◌>>=◌
returns-in_err-code c =
    section-refused c.args.mask c.args.s.now _ c.from_residual-in_err-code.ensures.1 (rw (
      (rw c.new.ensures at c.in_ok-header.ensures),
      c.in_ok-source.ensures,
      (names-got c.names.ensures c.in_ok-named.was).is,
      (constants-got c.constants.ensures c.in_ok-pool.was).is,
      (list-got c.tokens.ensures c.in_ok-tokens.was).is,
      (list-got c.assigns.ensures c.in_ok-assigns.was).is,
      (both-got c.chains.ensures c.in_ok-chains.was).is,
      tops _ _ (constants-got c.constants.ensures c.in_ok-pool.was).fact,
      (cases-got c.switches.ensures c.in_ok-switched.was).is,
      (both-got c.customs.ensures c.in_ok-customs.was).is,
      c.in_ok-main.ensures,
      (both-got c.functions.ensures c.in_ok-functions.was).is,
      c.in_err-code.ensures,
    ))

pub returns-in_err-positions : goal.returns-in_err-positions
unfolding artifact ◌>>=◌
returns-in_err-positions c =
    section-refused c.args.mask c.args.s.now _ c.from_residual-in_err-positions.ensures.1 (rw (
      (rw c.new.ensures at c.in_ok-header.ensures),
      c.in_ok-source.ensures,
      (names-got c.names.ensures c.in_ok-named.was).is,
      (constants-got c.constants.ensures c.in_ok-pool.was).is,
      (list-got c.tokens.ensures c.in_ok-tokens.was).is,
      (list-got c.assigns.ensures c.in_ok-assigns.was).is,
      (both-got c.chains.ensures c.in_ok-chains.was).is,
      tops _ _ (constants-got c.constants.ensures c.in_ok-pool.was).fact,
      (cases-got c.switches.ensures c.in_ok-switched.was).is,
      (both-got c.customs.ensures c.in_ok-customs.was).is,
      c.in_ok-main.ensures,
      (both-got c.functions.ensures c.in_ok-functions.was).is,
      c.in_ok-code.ensures,
      c.in_err-positions.ensures,
    ))

-- what all of them say
pub returns-in_err-end : goal.returns-in_err-end
returns-in_err-end c =
    let ns = names-got c.names.ensures c.in_ok-named.was in
    let cs = constants-got c.constants.ensures c.in_ok-pool.was in
    let ts = list-got c.tokens.ensures c.in_ok-tokens.was in
    let os = list-got c.assigns.ensures c.in_ok-assigns.was in
    let ls = both-got c.chains.ensures c.in_ok-chains.was in
    let ws = cases-got c.switches.ensures c.in_ok-switched.was in
    let us = both-got c.customs.ensures c.in_ok-customs.was in
    let fs = both-got c.functions.ensures c.in_ok-functions.was in
    end-refused c.args.mask c.args.s.now _ c.from_residual-in_err-end.ensures.1
    (all-got _ _ _ (rw c.new.ensures at c.in_ok-header.ensures) c.in_ok-source.ensures ns.is cs.is ts.is os.is ls.is (tops _ _ cs.fact) ws.is us.is
    c.in_ok-main.ensures fs.is c.in_ok-code.ensures c.in_ok-positions.ensures)
    c.in_err-end.ensures

pub returns : goal.returns
returns c =
    let ns = names-got c.names.ensures c.in_ok-named.was in
    let cs = constants-got c.constants.ensures c.in_ok-pool.was in
    let ts = list-got c.tokens.ensures c.in_ok-tokens.was in
    let os = list-got c.assigns.ensures c.in_ok-assigns.was in
    let ls = both-got c.chains.ensures c.in_ok-chains.was in
    let ws = cases-got c.switches.ensures c.in_ok-switched.was in
    let us = both-got c.customs.ensures c.in_ok-customs.was in
    let fs = both-got c.functions.ensures c.in_ok-functions.was in
    let a : A.Artifact = record {
      header = header_of c.in_ok-header.header;
      source = text_at c.args.s.now c.in_ok-source.source;
      names = ns.value;
      constants = cs.value;
      tokens = ts.value;
      assigns = os.value;
      chains = ls.value;
      switches = ws.value;
      customs = us.value;
      main = c.in_ok-main.main;
      functions = fs.value;
      code = text_at c.args.s.now c.in_ok-code.code;
      positions = text_at c.args.s.now c.in_ok-positions.positions;
    } in
    all-read c.args.mask c.args.s.now _ {a = a}
    (all-got _ _ _ (rw c.new.ensures at c.in_ok-header.ensures) c.in_ok-source.ensures ns.is cs.is ts.is os.is ls.is (tops _ _ cs.fact) ws.is us.is
    c.in_ok-main.ensures fs.is c.in_ok-code.ensures c.in_ok-positions.ensures)
    c.in_ok-end.ensures
    (told_all c.args.s.now a ns.fact cs.fact ts.fact os.fact ls.fact ws.fact us.fact fs.fact)
    (both (c.names.ensures.table ns.value _ ns.is) (both (c.constants.ensures.table cs.value _ cs.is) (both (c.tokens.ensures.table ts.value _ ts.is)
    (both (c.assigns.ensures.table os.value _ os.is) (both (c.chains.ensures.table ls.value _ ls.is) (both (c.chains.ensures.items ls.value _ ls.is)
    (both (c.switches.ensures.table ws.value _ ws.is) (both (c.switches.ensures.cases ws.value _ ws.is) (both (c.switches.ensures.ranges ws.value _ ws.is)
    (both (c.customs.ensures.table us.value _ us.is) (both (c.customs.ensures.items us.value _ us.is) (both (c.functions.ensures.table fs.value _ fs.is)
    (both (c.functions.ensures.items fs.value _ fs.is) refl)))))))))))))
