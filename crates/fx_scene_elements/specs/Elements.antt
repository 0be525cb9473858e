-- What a property element of an instance asks for.
use Rattle.std.specs.Prelude.{ℕ, Bool, true, false, List, [], ◌∷◌, codes, Option, Some, None, Result, Ok, Err, if◌then◌else◌}
use Rattle.std.specs.Str.{bytes_eq}
use Rattle.fx_doc_grammar.specs.Grammar.{Attr, Head, Nodes}
use Rattle.fx_doc_grammar.specs.Machine.{is_nothing}
use Rattle.fx_kinds.specs.declared.classes.Class.{Class}
use Rattle.fx_kinds.specs.declared.classes.Class.TheVariants as class
use Rattle.fx_scene_acts.specs.declared.acts.Act.{Act}
use Rattle.fx_scene_elements.specs.Added.{Asked, asked, flaw_at}
use Rattle.fx_scene_elements.specs.Held.{held_asked}
use Rattle.fx_scene_elements.specs.Lists.{list_asked}
use Rattle.fx_scene_elements.specs.Targets.{Target, target_of}
use Rattle.fx_scene_elements.specs.Tracks as track
use Rattle.fx_scene_elements.specs.Tracks.{column_acts, columns_told, lanes_of, row_acts, rows_told}
use Rattle.fx_scene_elements.specs.declared.elements.Listed.{Listed}
use Rattle.fx_scene_elements.specs.declared.elements.Listed.TheVariants as listed
use Rattle.fx_scene_elements.specs.declared.entries.Entry.TheVariants as entry
use Rattle.fx_scene_elements.specs.declared.lanes.Lane.{Lane}
use Rattle.fx_scene_flaws.specs.declared.flaws.Fault.{Fault}
use Rattle.fx_scene_flaws.specs.declared.flaws.Flaw.{Flaw as Mistake}
use Rattle.fx_scene_flaws.specs.declared.flaws.Flaw.TheVariants as flaw
use Rattle.fx_scene_literals.specs.Literals.{bare_fault}
use Rattle.fx_scene_things.specs.Names.{Names}
use Rattle.fx_scene_values.specs.Scopes.{Scope}

-- what a property element asks for, the constraints of grids that it adds, and the names that are known behind it
pub record Told : Type 0 where
  pub acts : List Act
  pub lanes : List Lane
  pub names : Names

abbrev pub told : List Act → List Lane → Names → Told
told acts lanes names = record { acts = acts; lanes = lanes; names = names }

abbrev pub plain : Asked → Told
plain a = told a.acts [] a.names

abbrev pub wrong : List Act → Names → Told
wrong acts names = told acts [] names

-- values

abbrev pub held_if : Scope → Names → ℕ → Head → Nodes → Target → Option Fault → Asked
held_if scope names node head content target (Some fault) = asked (flaw_at fault.place fault.flaw) names
held_if scope names node head content target None = held_asked scope node head.name target names content

abbrev pub target_asked : Scope → Names → ℕ → Head → Nodes → Result Target Mistake → Asked
target_asked scope names node head content (Err mistake) = asked (flaw_at head.position mistake) names
target_asked scope names node head content (Ok target) =
    held_if scope names node head content target (bare_fault head.position head.attributes (is_nothing content))

abbrev pub value_asked : Scope → Names → ℕ → Class → Head → Nodes → Asked
value_asked scope names node class head content =
    target_asked scope names node head content (target_of scope class head.name)

-- lists

abbrev pub is_grid : Class → Bool
is_grid class.GridPane = true
is_grid _ = false

abbrev pub grid_list : List ℕ → Option Listed
grid_list name =
    if bytes_eq name (codes "columnConstraints") then Some listed.Columns
    else (if bytes_eq name (codes "rowConstraints") then Some listed.Rows else None)

abbrev pub list_in : Class → List ℕ → Option Listed
list_in class name = if is_grid class then grid_list name else None

-- the list that the property element of this name is
abbrev pub list_named : Class → List ℕ → Option Listed
list_named class name =
    if bytes_eq name (codes "styleClass") then Some listed.Classes
    else (if bytes_eq name (codes "stylesheets") then Some listed.Sheets
    else list_in class name)

abbrev pub columns_by : Head → List Lane → ℕ → ℕ → track.Told → Told
columns_by head lanes owner node more =
    told (column_acts head.position lanes owner node more) (lanes_of owner false more.tracks) more.names

abbrev pub rows_by : Head → List Lane → ℕ → ℕ → track.Told → Told
rows_by head lanes owner node more =
    told (row_acts head.position lanes owner node more) (lanes_of owner true more.tracks) more.names

abbrev pub items_told : Scope → Names → List Lane → ℕ → ℕ → Head → Nodes → Listed → Told
items_told scope names lanes owner node head content listed.Classes =
    plain (list_asked entry.Class scope names node content)
items_told scope names lanes owner node head content listed.Sheets =
    plain (list_asked entry.Sheet scope names node content)
items_told scope names lanes owner node head content listed.Columns =
    columns_by head lanes owner node (columns_told scope names lanes owner content)
items_told scope names lanes owner node head content listed.Rows =
    rows_by head lanes owner node (rows_told scope names lanes owner content)

-- a list has no attributes
abbrev pub list_told : Scope → Names → List Lane → ℕ → ℕ → Head → Nodes → Listed → List Attr → Told
list_told scope names lanes owner node head content list [] =
    items_told scope names lanes owner node head content list
list_told scope names lanes owner node head content list (a ∷ others) = wrong (flaw_at a.position flaw.Property) names

abbrev pub told_if : Scope → Names → List Lane → ℕ → ℕ → Class → Head → Nodes → Option Listed → Told
told_if scope names lanes owner node class head content (Some list) =
    list_told scope names lanes owner node head content list head.attributes
told_if scope names lanes owner node class head content None =
    plain (value_asked scope names node class head content)

-- a property element of the instance at the place `owner`, which is the node of this ordinal and of the class, where
-- these names are known, and grids have these constraints
unfoldable pub element_told : Scope → Names → List Lane → ℕ → ℕ → Class → Head → Nodes → Told
element_told scope names lanes owner node class head content =
    told_if scope names lanes owner node class head content (list_named class head.name)
