-- The count, the sites without their inputs, and the inputs.
use mathlib.Core.Path.{refl}
use Rattle.rows.specs.Back.{site_of, input_of}
use Rattle.written.specs.Put.{put_input, put_site}
use Rattle.sizes.specs.Own.{own_site}
use Rattle.sizes.proofs.Apart.{shares-count}
use Rattle.sizes.proofs.Records.{site-apart}
use Rattle.sizes.proofs.callable.sites.Goals as goal

pub returns : goal.returns
returns c =
    let a = c.args in shares-count put_site own_site put_input (λ u. u.inputs) site-apart 2 3 site_of a.used a.t.now 5 input_of a.inputs.now (λ row. refl) c.number.ensures.value c.plus.ensures c.rows-behind.ensures c.requires.owned_value c.rows.ensures
