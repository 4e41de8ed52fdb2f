-- `declare` meets its contract: what each stage leaves is what the next asks for.
use mathlib.Core.Path.{sym, ◌∙◌}
use native.Mathlib.Omega.{arith}
use Rattle.node.proofs.ReturnedLaws.{raised}
use Rattle.declarations.specs.ExpressionLaws.{room-kept}
use Rattle.declarations.specs.Closing.{stopped, constants-refused, sizes-refused, closing-room, closing, sizes_given}
use Rattle.declarations.proofs.declare.declare.Goals as goal

pub returns-in_err-names : goal.returns-in_err-names
returns-in_err-names c =
    λ x k. stopped (raised c.from_residual.ensures) (constants-refused k (c.globals.ensures.0 x k) c.in_err-names.was)

pub sizes-requires : goal.sizes-requires
sizes-requires c =
    let ports = c.find_ports-ports in
    let settled = c.globals in
    let g = c.requires.0 in
    let lengths = settled.ensures.1 in
    sizes_given g (settled.ensures.0 g.x g.checked) c.in_ok-names.was (ports.ensures.0 g.x g.checked.tree) ports.ensures.1.0
    (record {
      refs_room = g.refs_room;
      sorts_full = lengths.sorts_full _ c.in_ok-names.was;
      numbers_full = lengths.numbers_full _ c.in_ok-names.was;
      memory = room-kept _ _ settled.auto.memory (lengths.table_kept _ c.in_ok-names.was) c.requires.1.0;
    })

pub returns-in_err-all : goal.returns-in_err-all
returns-in_err-all c =
    let ports = c.find_ports-ports in
    λ x k. stopped (raised c.from_residual-in_err-all.ensures)
    (sizes-refused k (c.globals.ensures.0 x k) c.in_ok-names.was (ports.ensures.0 x k.tree) ports.ensures.1.0 (c.sizes.ensures.0 c.args.found.now c.args.counts.names x)
    c.in_err-all.was)

pub slice_bounds-list_signals-end : goal.slice_bounds-list_signals-end
slice_bounds-list_signals-end c = sym c.find_ports-ports.ensures.1.1.0

pub slice_bounds-list_signals-end-2 : goal.slice_bounds-list_signals-end-2
slice_bounds-list_signals-end-2 c = sym c.find_ports-ports.ensures.1.1.1

pub slice_bounds-list_signals-end-3 : goal.slice_bounds-list_signals-end-3
slice_bounds-list_signals-end-3 c = sym (c.sizes.ensures.1.widths_full _ c.in_ok-all.was)

pub list_signals-listed-requires : goal.list_signals-listed-requires
list_signals-listed-requires c =
    let all = c.sizes in
    let ports = c.find_ports-ports in
    let g = c.requires.0 in
    closing-room g.checked (c.globals.ensures.0 g.x g.checked) c.in_ok-names.was (ports.ensures.0 g.x g.checked.tree) ports.ensures.1.0
    (all.ensures.0 c.args.found.now c.args.counts.names g.x) c.in_ok-all.was (omega (arith, ports.ensures.1.1.0)) (omega (arith, ports.ensures.1.1.1))
    (omega (arith, all.ensures.1.widths_full _ c.in_ok-all.was)) (omega arith) c.requires.1.1

pub slice_bounds-lay-end : goal.slice_bounds-lay-end
slice_bounds-lay-end c = sym (c.sizes.ensures.1.sorts_full _ c.in_ok-all.was)

pub slice_bounds-lay-end-2 : goal.slice_bounds-lay-end-2
slice_bounds-lay-end-2 c = sym (c.sizes.ensures.1.numbers_full _ c.in_ok-all.was)

pub lay-requires : goal.lay-requires
lay-requires c =
    let room = c.requires.1.0 in
    let lengths = c.sizes.ensures.1 in record {
      max_names_in_bounds =
          (omega (arith, lengths.sorts_full _ c.in_ok-all.was), (omega (arith, lengths.numbers_full _ c.in_ok-all.was), omega (arith, c.list_signals-listed.auto.firsts)));
      first_kept_bound = (omega (arith, c.globals.auto.memory, c.sizes.auto.memory, room.kept), omega (arith, c.globals.auto.memory, c.sizes.auto.memory, room.most));
    }

pub returns : goal.returns
returns c =
    let all = c.sizes in
    let ports = c.find_ports-ports in
    let settled = c.globals in
    λ x k. record {
      answer = closing k (settled.ensures.0 x k) c.in_ok-names.was (ports.ensures.0 x k.tree) ports.ensures.1.0
          (all.ensures.0 c.args.found.now c.args.counts.names x) c.in_ok-all.was (omega arith) c.list_signals-listed.ensures c.lay.ensures.1
          (room-kept _ _ (c.lay.ensures.0 ∙ all.auto.memory ∙ settled.auto.memory) (all.ensures.1.table_kept _ c.in_ok-all.was ∙ settled.ensures.1.table_kept _ c.in_ok-names.was) c.requires.1.0);
    }
