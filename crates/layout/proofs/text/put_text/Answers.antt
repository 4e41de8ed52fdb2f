-- `put_text` meets its contract: the parts stand one behind the other.
use mathlib.Core.Path.{◌∙◌}
use Rattle.node.specs.Table.{root}
use Rattle.signal_names.specs.Runs.{puts_length}
use Rattle.signal_names.specs.Promise.{slot}
use Rattle.layout.specs.Text.{model_of}
use Rattle.layout.specs.WholeLaws.{room_1, room-2, room-3, room-4, room-5, room-6, room-7, text-put}
use Rattle.layout.proofs.text.put_text.Goals as goal

pub put_head-inputs-requires : goal.put_head-inputs-requires
put_head-inputs-requires c =
    room_1 (model_of c.args.target) (slot c.args.names.now c.args.sizes.now) c.args.list.now (root c.args.nodes.now) c.args.out.now c.requires.nodes_in_bounds

pub put_lines-between-requires : goal.put_lines-between-requires
put_lines-between-requires c = (
  c.requires.table_value.1.1,
  room-2 (model_of c.args.target) (slot c.args.names.now c.args.sizes.now) c.args.list.now (root c.args.nodes.now) c.args.out.now
      c.requires.nodes_in_bounds
      c.put_head-inputs.ensures,
)

pub put_all-outputs-requires : goal.put_all-outputs-requires
put_all-outputs-requires c =
    room-3 (model_of c.args.target) (slot c.args.names.now c.args.sizes.now) c.args.list.now (root c.args.nodes.now) c.args.out.now c.requires.nodes_in_bounds
    c.put_head-inputs.ensures c.put_lines-between.ensures

pub put_lines-behind-requires : goal.put_lines-behind-requires
put_lines-behind-requires c = (
  c.requires.table_value.1.1,
  room-4 (model_of c.args.target) (slot c.args.names.now c.args.sizes.now) c.args.list.now (root c.args.nodes.now) c.args.out.now
      c.requires.nodes_in_bounds
      c.put_head-inputs.ensures c.put_lines-between.ensures c.put_all-outputs.ensures,
)

pub put_all-formula-requires : goal.put_all-formula-requires
put_all-formula-requires c =
    room-5 (model_of c.args.target) (slot c.args.names.now c.args.sizes.now) c.args.list.now (root c.args.nodes.now) c.args.out.now c.requires.nodes_in_bounds
    c.put_head-inputs.ensures c.put_lines-between.ensures c.put_all-outputs.ensures c.put_lines-behind.ensures

pub put_formula-end-requires : goal.put_formula-end-requires
put_formula-end-requires c =
    record {
      pieces_value = (c.requires.table_value.0, c.requires.table_value.1.0);
      nodes_in_bounds = room-6 (model_of c.args.target) (slot c.args.names.now c.args.sizes.now) c.args.list.now (root c.args.nodes.now) c.args.out.now
          c.requires.nodes_in_bounds
          c.put_head-inputs.ensures c.put_lines-between.ensures c.put_all-outputs.ensures c.put_lines-behind.ensures c.put_all-formula.ensures;
    }

pub put_all-requires : goal.put_all-requires
put_all-requires c =
    room-7 (model_of c.args.target) (slot c.args.names.now c.args.sizes.now) c.args.list.now (root c.args.nodes.now) c.args.out.now c.requires.nodes_in_bounds
    c.put_head-inputs.ensures c.put_lines-between.ensures c.put_all-outputs.ensures c.put_lines-behind.ensures c.put_all-formula.ensures
    c.put_formula-end.ensures

pub shape_of-out : goal.shape_of-out
shape_of-out c =
    puts_length c.put_all.ensures ∙ puts_length c.put_formula-end.ensures ∙ puts_length c.put_all-formula.ensures ∙ puts_length c.put_lines-behind.ensures
    ∙ puts_length c.put_all-outputs.ensures ∙ puts_length c.put_lines-between.ensures ∙ puts_length c.put_head-inputs.ensures

pub returns : goal.returns
returns c =
    (text-put (model_of c.args.target) (slot c.args.names.now c.args.sizes.now) c.args.list.now (root c.args.nodes.now) c.args.out.now
    c.requires.nodes_in_bounds
    c.put_head-inputs.ensures c.put_lines-between.ensures c.put_all-outputs.ensures c.put_lines-behind.ensures c.put_all-formula.ensures
    c.put_formula-end.ensures c.put_all.ensures).bytes
