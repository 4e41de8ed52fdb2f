-- `put_all` meets its contract.
use Rattle.layout.specs.TextLaws.{put_whole}
use Rattle.layout.proofs.text.put_all.Goals as goal

pub returns : goal.returns
returns c =
    put_whole c.put_bytes.ensures
