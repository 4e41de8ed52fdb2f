-- `small_blank` meets its contract: zeros.
use Rattle.shared_forms.specs.ComposeLaws.{blank}
use Rattle.shared_forms.proofs.small_blank.Goals as goal

pub returns : goal.returns
returns c = blank _
