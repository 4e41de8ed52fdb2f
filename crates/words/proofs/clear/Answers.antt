-- `clear` meets its contract: zeros stand for the first bytes.
use Rattle.words.specs.ClearingLaws.{zeros-cleared}
use Rattle.words.proofs.clear.Goals as goal

pub returns : goal.returns
returns c = zeros-cleared c.min-end.result c.args.n c.fill.new.self c.args.work.now (c.fill.ensures.after (λ y e. e)) c.min-end.ensures
