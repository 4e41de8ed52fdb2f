-- `read_lasso` meets its contract: the three fields of the header.
use mathlib.Core.Path.{refl}
use Rattle.recordings.proofs.read_lasso.Goals as goal

pub returns : goal.returns
returns c =
    let field = c.field-n in
    let field2 = c.field-l in
    rw (field.ensures, field2.ensures, c.field-k.ensures) refl
