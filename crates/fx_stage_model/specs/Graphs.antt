-- The scene graph, and what each change makes of it.
use Rattle.std.specs.Prelude.{ℕ, ◌+◌, ◌==◌, Bool, true, false, not, ◌&&◌, List, [], ◌∷◌, ◌++◌, codes, length, filter, Option, Some, None, if◌then◌else◌}
use Rattle.std.specs.FinMap as map_of
use Rattle.std.specs.List.{fold, list_any}
use Rattle.fx_base.specs.declared.keys.NodeKey.{NodeKey}
use Rattle.fx_css_types.specs.declared.sheets.Sheet.{Sheet}
use Rattle.fx_events.specs.declared.kinds.EventKind.{EventKind}
use Rattle.fx_events.specs.declared.kinds.Phase.{Phase}
use Rattle.fx_events.specs.declared.registrations.Registration.{Registration}
use Rattle.fx_events.specs.Handlers.{HandlerMap, after_add, after_forget, is_full, registrations_of, nobody as unhandled}
use Rattle.fx_kinds.specs.declared.classes.Class.{Class}
use Rattle.fx_kinds.specs.declared.classes.Class.TheVariants as class
use Rattle.fx_kinds.specs.Classes.{takes_children}
use Rattle.fx_tree.specs.declared.TreeError.{TreeError}
use Rattle.fx_tree.specs.Refusals.{attach_refusal, is_full as is_full_of}
use Rattle.fx_tree.specs.Scene as scene
use Rattle.fx_stage_types.specs.declared.answers.StageError.{StageError}
use Rattle.fx_stage_types.specs.declared.answers.StageError.TheVariants.{Refused}
use Rattle.fx_stage_types.specs.declared.edits.NodeEdit.{NodeEdit}
use Rattle.fx_stage_types.specs.declared.edits.NodeEdit.TheVariants as edit
use Rattle.fx_stage_types.specs.declared.node_data.NodeData.{NodeData}
use Rattle.fx_stage_types.specs.declared.refusals.Refusal.TheVariants as word
use Rattle.fx_stage_types.specs.declared.steps.Spot.{Spot}
use Rattle.fx_stage_types.specs.declared.steps.Spot.TheVariants.{At, On}
use Rattle.fx_stage_types.specs.Edits.{born_data, edited, with_edge}
use Rattle.fx_stage_types.specs.Tables.{NodeTable, Paths, changed_data, data_of, nobody, without_data, without_paths}

-- The scene graph: the tree, what its nodes have of their own, their handlers, their paths, and the scene's own style
-- sheets; and which nodes the pointer is over, which the button holds, from the outermost, which of these was pressed,
-- and which has the focus.
pub record Graph : Type 0 where
  pub tree : scene.Scene
  pub table : NodeTable
  pub handlers : HandlerMap
  pub paths : Paths
  pub sheets : List Sheet
  pub hover : List NodeKey
  pub pressed : List NodeKey
  pub target : Option NodeKey
  pub focus : Option NodeKey

-- nothing is built
abbrev pub bare : Graph
bare =
    record {
      tree = scene.nothing;
      table = nobody;
      handlers = unhandled;
      paths = [];
      sheets = [];
      hover = [];
      pressed = [];
      target = None;
      focus = None;
    }

-- the scene graph of these parts
abbrev pub graph_of : scene.Scene → NodeTable → HandlerMap → Paths → List Sheet → List NodeKey → List NodeKey
    → Option NodeKey → Option NodeKey → Graph
graph_of tree table handlers paths sheets hover pressed target focus =
    record {
      tree = tree;
      table = table;
      handlers = handlers;
      paths = paths;
      sheets = sheets;
      hover = hover;
      pressed = pressed;
      target = target;
      focus = focus;
    }

-- 4,096 nodes are alive, or all birth numbers were given
abbrev pub is_full_of_nodes : Graph → Bool
is_full_of_nodes graph = is_full_of graph.tree

abbrev pub make_refusal : Graph → Option StageError
make_refusal graph = if is_full_of_nodes graph then Some (Refused word.Full) else None

-- a further node of the class, its properties numbered from here on
abbrev pub with_born : Class → ℕ → NodeKey → Graph → Graph
with_born class first key graph =
    record graph {
      tree = scene.after_make graph.tree key;
      table = map_of.insert graph.table key (born_data class first);
    }

abbrev pub with_path : List (List ℕ) → NodeKey → Graph → Graph
with_path path key graph = record graph { paths = graph.paths ++ (path, key) ∷ [] }

abbrev pub with_sheet : Sheet → Graph → Graph
with_sheet sheet graph = record graph { sheets = graph.sheets ++ sheet ∷ [] }

-- what a node has of its own is edited
abbrev pub edited_at : NodeKey → NodeEdit → Graph → Graph
edited_at key change graph = record graph { table = changed_data key (edited change) graph.table }

-- the scene's root has the style class `root`, too
abbrev pub root_class : List ℕ
root_class = codes "root"

abbrev pub rooted : NodeKey → Graph → Graph
rooted key graph =
    record graph {
      tree = scene.after_set_root graph.tree key;
      table = changed_data key (edited (edit.AddClass root_class)) graph.table;
    }

-- handlers

abbrev pub registration : EventKind → Phase → List ℕ → Registration
registration on phase action = record { on = on; phase = phase; action = action }

-- the node has 64 registrations in this phase, and none gives way
abbrev pub handler_refusal : NodeKey → Registration → Graph → Option StageError
handler_refusal key new graph =
    if is_full new (registrations_of graph.handlers key) then Some (Refused word.Full) else None

abbrev pub with_handler : NodeKey → Registration → Graph → Graph
with_handler key new graph = record graph { handlers = after_add graph.handlers key new }

-- attaching a node

abbrev pub is_border_class : Class → Bool
is_border_class class.BorderPane = true
is_border_class _ = false

abbrev pub is_border : Option NodeData → Bool
is_border None = false
is_border (Some node) = is_border_class node.class

abbrev pub takes_places : Option NodeData → Bool
takes_places None = false
takes_places (Some node) = takes_children node.class && not (is_border (Some node))

abbrev pub edge_of : Option NodeData → Option ℕ
edge_of None = None
edge_of (Some node) = node.edge

abbrev pub is_on : ℕ → Option ℕ → Bool
is_on edge None = false
is_on edge (Some other) = edge == other

-- one of these nodes stands on the edge
abbrev pub is_taken : NodeTable → ℕ → List NodeKey → Bool
is_taken table edge keys = list_any (λ (key : NodeKey). is_on edge (edge_of (data_of table key))) keys

-- whether a pane with these children has the spot for one more
abbrev pub has_spot : NodeTable → Option NodeData → List NodeKey → Spot → Bool
has_spot table pane children (At place) = takes_places pane
has_spot table pane children (On edge) = is_border pane && not (is_taken table edge children)

abbrev pub at_spot : List NodeKey → Spot → ℕ
at_spot children (At place) = place
at_spot children (On edge) = length children

-- where a child goes in a pane's list of children: on an edge last, and what is no spot of the pane is a place past the
-- end
abbrev pub place_in : NodeTable → Option NodeData → List NodeKey → Spot → ℕ
place_in table pane children spot =
    if has_spot table pane children spot then at_spot children spot else length children + 1

abbrev pub place_of : Graph → NodeKey → Spot → ℕ
place_of graph pane spot =
    place_in graph.table (data_of graph.table pane) (scene.children_or_none graph.tree.nodes pane) spot

abbrev pub edge_at : Spot → Option ℕ
edge_at (At place) = None
edge_at (On edge) = Some edge

unfoldable pub attached : NodeKey → NodeKey → Spot → Graph → Graph
attached pane child spot graph =
    record graph {
      tree = scene.after_attach graph.tree pane child (place_of graph pane spot);
      table = changed_data child (with_edge (edge_at spot)) graph.table;
    }

unfoldable pub child_refusal : NodeKey → NodeKey → Spot → Graph → Option TreeError
child_refusal pane child spot graph = attach_refusal graph.tree pane child (place_of graph pane spot)

-- detaching a node

-- these keys but for those that are gone
abbrev pub outside : List NodeKey → List NodeKey → List NodeKey
outside gone keys = filter (λ (key : NodeKey). not (scene.has gone key)) keys

abbrev pub kept_outside : List NodeKey → Option NodeKey → Option NodeKey
kept_outside gone None = None
kept_outside gone (Some key) = if scene.has gone key then None else Some key

-- a node and all below it have no parent, and aren't under the pointer, nor held by the button, nor in focus
unfoldable pub detached : NodeKey → Graph → Graph
detached key graph =
    record graph {
      tree = scene.after_detach graph.tree key;
      table = changed_data key (with_edge None) graph.table;
      hover = outside (scene.subtree graph.tree.nodes key) graph.hover;
      pressed = outside (scene.subtree graph.tree.nodes key) graph.pressed;
      target = kept_outside (scene.subtree graph.tree.nodes key) graph.target;
      focus = kept_outside (scene.subtree graph.tree.nodes key) graph.focus;
    }

-- dropping a node

abbrev pub without_handlers : List NodeKey → HandlerMap → HandlerMap
without_handlers keys handlers = fold after_forget handlers keys

-- nothing is left of these nodes, which are the subtree of the first
unfoldable pub dropped : NodeKey → List NodeKey → Graph → Graph
dropped key keys graph =
    record graph {
      tree = scene.after_drop graph.tree key;
      table = without_data keys graph.table;
      handlers = without_handlers keys graph.handlers;
      paths = without_paths keys graph.paths;
    }
