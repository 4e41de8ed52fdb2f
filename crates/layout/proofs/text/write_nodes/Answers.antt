-- `write_nodes` meets its contract: 22 at the first name at fault, or the text of the names in their slots.
use mathlib.Core.Path.{◌≡◌}
use native.Mathlib.Omega.{arith}
use lib.ListN.{length}
use Rattle.layout.specs.Text.{model_of}
use Rattle.layout.specs.WholeLaws.{delivers_refused}
use Rattle.layout.specs.Meaning.{name-refused, names-pass, names_held}
use Rattle.layout.proofs.text.write_nodes.Goals as goal

pub returns-then-fault-list : goal.returns-then-fault-list
returns-then-fault-list c =
    delivers_refused _ (name-refused c.spell-fault.ensures c.args.nodes.now _ (model_of c.args.target) c.if-fault-list.true)

pub write_text-requires : goal.write_text-requires
write_text-requires c =
    let all : c.spell-fault.result ≡ length c.args.list.now = omega (arith, c.spell-fault.ensures.within, c.if-fault-list.false) in
    let held = names_held c.spell-fault.ensures c.args.nodes.now 0 (model_of c.args.target) all (omega (arith, c.requires.1)) (omega (arith, c.requires.1)) in
    (record { limit = _; formed = c.requires.0; held = held }, (held, c.requires.1))

pub returns : goal.returns
returns c =
    let all : c.spell-fault.result ≡ length c.args.list.now = omega (arith, c.spell-fault.ensures.within, c.if-fault-list.false) in
    rw (names-pass c.spell-fault.ensures c.args.nodes.now _ (model_of c.args.target) all c.requires.0) c.write_text.ensures
