-- The count, the functions without their parameters, and the parameters.
use mathlib.Core.Path.{refl}
use Rattle.rows.specs.Back.{function_of, parameter_of}
use Rattle.written.specs.Put.{put_name, put_function}
use Rattle.sizes.specs.Own.{own_function}
use Rattle.sizes.proofs.Apart.{shares-count}
use Rattle.sizes.proofs.Records.{function-apart}
use Rattle.sizes.proofs.callable.functions.Goals as goal

pub returns : goal.returns
returns c =
    let a = c.args in shares-count put_function own_function put_name (λ f. f.parameters) function-apart 3 7 function_of a.used a.t.now 1 parameter_of a.parameters.now (λ row. refl) c.number.ensures.value c.plus.ensures c.rows-behind.ensures c.requires.owned_value c.rows.ensures
