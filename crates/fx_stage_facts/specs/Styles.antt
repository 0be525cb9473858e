-- What the style of each node in the scene hangs on.
use Rattle.std.specs.Prelude.{ℕ, ◌+◌, Bool, true, false, List, [], ◌∷◌, ◌++◌, codes, length, Option, Some, None, if◌then◌else◌, option_to_list}
use Rattle.std.specs.List.{flat_map, list_any}
use Rattle.fx_base.specs.declared.keys.NodeKey.{NodeKey}
use Rattle.fx_graph_model.specs.declared.entries.Entry.{Entry}
use Rattle.fx_graph_model.specs.declared.entries.Origin.{Origin}
use Rattle.fx_graph_model.specs.declared.entries.Origin.TheVariants as origin
use Rattle.fx_graph_model.specs.Eager.{eager}
use Rattle.fx_graph_model.specs.Uses.{entry_of}
use Rattle.fx_kinds.specs.declared.classes.Class.TheVariants as class
use Rattle.fx_kinds.specs.declared.facts.StyleFacts.{StyleFacts}
use Rattle.fx_kinds.specs.Properties.{ListedProperty, properties_of}
use Rattle.fx_look.specs.declared.styles.CodeValue.{CodeValue}
use Rattle.fx_tree.specs.Scene.{is_same}
use Rattle.fx_stage_types.specs.declared.node_data.NodeData.{NodeData}
use Rattle.fx_stage_types.specs.Tables.{data_of}
use Rattle.fx_stage_model.specs.Graphs.{Graph}
use Rattle.fx_stage_model.specs.World.{World}
use Rattle.fx_stage_facts.specs.declared.places.Styled.{Styled}
use Rattle.fx_stage_facts.specs.declared.stands.Stand.{Stand}
use Rattle.fx_stage_facts.specs.Sheets.{common_sheets, inline_place, places_of, sheets_at}
use Rattle.fx_stage_facts.specs.Stands.{stands_of}
use Rattle.fx_stage_facts.specs.Values.{text_of, value_in}

-- pseudo-classes

abbrev pub is_among : List NodeKey → NodeKey → Bool
is_among keys key = list_any (λ (other : NodeKey). is_same other key) keys

abbrev pub is_focus : Option NodeKey → NodeKey → Bool
is_focus None key = false
is_focus (Some focus) key = is_same focus key

abbrev pub named_if : Bool → List ℕ → List (List ℕ)
named_if true name = name ∷ []
named_if false name = []

-- those that a script set, and those that follow the pointer, the focus, the button and `disable`
abbrev pub pseudos_of : Graph → Stand → NodeData → List (List ℕ)
pseudos_of graph stand node =
    (((node.pseudos ++ named_if (is_among graph.hover stand.key) (codes "hover"))
    ++ named_if (is_focus graph.focus stand.key) (codes "focused"))
    ++ named_if (is_among graph.pressed stand.key) (codes "pressed"))
    ++ named_if stand.disabled (codes "disabled")

-- values by code

abbrev pub is_initial : Origin → Bool
is_initial origin.Initial = true
is_initial _ = false

abbrev pub is_binding : Origin → Bool
is_binding origin.Bound = true
is_binding _ = false

abbrev pub code_with : ℕ → List Entry → ℕ → CodeValue
code_with style entries name =
    record {
      style = record { 0 = style };
      value = eager entries name;
      bound = is_binding (entry_of entries name).origin;
    }

-- a property that a declaration styles has a value by code once anything but its declaration gave it one
abbrev pub code_of : List Entry → ℕ → Option ℕ → Option CodeValue
code_of entries name None = None
code_of entries name (Some style) =
    if is_initial (entry_of entries name).origin then None else Some (code_with style entries name)

-- of these properties, numbered from here on
abbrev pub codes_from : List Entry → ℕ → List ListedProperty → List CodeValue
codes_from entries name [] = []
codes_from entries name (property ∷ rest) =
    option_to_list (code_of entries name property.styled) ++ codes_from entries (name + 1) rest

-- of those that declarations style, where the first property has this number
abbrev pub styled_code : List Entry → ℕ → Styled → List CodeValue
styled_code entries first row = option_to_list (code_of entries (first + row.place) (Some row.style.0))

abbrev pub styled_codes : List Entry → ℕ → List Styled → List CodeValue
styled_codes entries first styled = flat_map (styled_code entries first) styled

-- of a node that has nothing there are no facts
abbrev pub bare_style : Stand → StyleFacts
bare_style stand =
    record {
      key = stand.key;
      parent = stand.parent;
      class = class.Region;
      id = [];
      classes = [];
      pseudos = [];
      inline = None;
      sheets = [];
      codes = [];
    }

-- the facts of a node, whose own sheets begin at this place
abbrev pub style_in : World → ℕ → Stand → Option NodeData → StyleFacts
style_in world place stand None = bare_style stand
style_in world place stand (Some node) =
    record {
      key = stand.key;
      parent = stand.parent;
      class = node.class;
      id = text_of (value_in world.store.entries node (codes "id"));
      classes = node.classes;
      pseudos = pseudos_of world.graph stand node;
      inline = inline_place (place + length node.sheets) node.inline;
      sheets = places_of (length (common_sheets world.graph)) stand.parent place (length node.sheets);
      codes = codes_from world.store.entries node.first (properties_of node.class);
    }

abbrev pub style_at : World → ℕ → Stand → StyleFacts
style_at world place stand = style_in world place stand (data_of world.graph.table stand.key)

-- the facts of these nodes, whose sheets begin at this place
abbrev pub styles_from : World → ℕ → List Stand → List StyleFacts
styles_from world place [] = []
styles_from world place (stand ∷ rest) =
    style_at world place stand ∷ styles_from world (place + length (sheets_at world.graph stand)) rest

-- the facts of the nodes that stand in the scene
abbrev pub style_facts : World → List StyleFacts
style_facts world = styles_from world (length (common_sheets world.graph)) (stands_of world)
