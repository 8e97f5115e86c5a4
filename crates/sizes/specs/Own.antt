-- Records that own items, without them: what stands of each beside its items, their count among it.
use Rattle.std.specs.Prelude.{ℕ, Bool, List, ◌++◌}
use Rattle.grammar.specs.Number.{shortest}
use Rattle.format.specs.declared.records.Chain.{Chain}
use Rattle.format.specs.declared.records.Switch.{Switch}
use Rattle.format.specs.declared.records.Site.{Site}
use Rattle.format.specs.declared.records.Function.{Function}
use Rattle.written.specs.Put.{put_name, put_root, put_tail, put_access, put_this, put_chunk}
use Rattle.emit.specs.Ways.{root_in}

abbrev pub own_chain : Bool → Chain → List ℕ
own_chain stripped c = put_root (root_in stripped c.root) ++ (shortest c.operands ++ (shortest c.steps ++ put_tail c.tail))

abbrev pub own_switch : Switch → List ℕ
own_switch w = shortest w.cases ++ (shortest w.ranges ++ shortest w.default)

abbrev pub own_site : Site → List ℕ
own_site u = shortest u.key ++ (shortest u.state ++ shortest u.inputs)

abbrev pub own_function : Function → List ℕ
own_function f = put_name f.name ++ (put_access f.access ++ (put_this f.this_type ++ (shortest f.parameters ++ put_chunk f.chunk)))
