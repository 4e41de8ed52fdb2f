-- `names::entry::name_at` meets its contract: the token, its place and its number, each as it is read.
use native.Mathlib.Omega.{arith}
use Rattle.names.proofs.OwnNameLaws.{own_name}
use Rattle.names.proofs.entry.name_at.Goals as goal

pub returns : goal.returns
returns c =
    own_name c.token_at-j.ensures c.place_at.ensures c.from.ensures
    (let f = c.type_inv.ids c.token_at-j.result in omega arith)
