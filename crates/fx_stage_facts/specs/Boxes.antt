-- What the layout of each node in the scene hangs on, beside its look.
use Rattle.std.specs.Prelude.{pos, false, List, [], codes, map, Option, Some, None}
use Rattle.fx_kinds.specs.declared.classes.Class.TheVariants as class
use Rattle.fx_kinds.specs.declared.facts.BoxFacts.{BoxFacts}
use Rattle.fx_graph_model.specs.declared.entries.Entry.{Entry}
use Rattle.fx_stage_types.specs.declared.node_data.NodeData.{NodeData}
use Rattle.fx_stage_types.specs.Tables.{data_of}
use Rattle.fx_stage_model.specs.World.{World}
use Rattle.fx_stage_facts.specs.declared.stands.Stand.{Stand}
use Rattle.fx_stage_facts.specs.Stands.{stands_of}
use Rattle.fx_stage_facts.specs.Values.{number_of, text_of, truth_of, value_in}

-- of a node that has nothing there are no facts
abbrev pub bare_box : Stand → BoxFacts
bare_box stand =
    record {
      key = stand.key;
      parent = stand.parent;
      class = class.Region;
      constraints = [];
      edge = None;
      columns = [];
      rows = [];
      text = [];
      layout_x = pos 0;
      layout_y = pos 0;
      focus_traversable = false;
    }

-- a node that shows no text has the empty one
abbrev pub box_in : List Entry → Stand → Option NodeData → BoxFacts
box_in entries stand None = bare_box stand
box_in entries stand (Some node) =
    record {
      key = stand.key;
      parent = stand.parent;
      class = node.class;
      constraints = node.constraints;
      edge = node.edge;
      columns = node.columns;
      rows = node.rows;
      text = text_of (value_in entries node (codes "text"));
      layout_x = number_of (value_in entries node (codes "layoutX"));
      layout_y = number_of (value_in entries node (codes "layoutY"));
      focus_traversable = truth_of (value_in entries node (codes "focusTraversable"));
    }

abbrev pub box_at : World → Stand → BoxFacts
box_at world stand = box_in world.store.entries stand (data_of world.graph.table stand.key)

-- the facts of the nodes that stand in the scene
abbrev pub box_facts : World → List BoxFacts
box_facts world = map (box_at world) (stands_of world)
