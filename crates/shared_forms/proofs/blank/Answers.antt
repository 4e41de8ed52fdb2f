-- `blank` meets its contract: zeros.
use Rattle.shared_forms.specs.ComposeLaws.{blank}
use Rattle.shared_forms.proofs.blank.Goals as goal

pub returns : goal.returns
returns c = blank _
