-- The names of a document's instances: each has the ordinal of its node, the number of nodes before it.
use Rattle.std.specs.Prelude.{ℕ, Bool, List, codes, Option, Some, None}
use Rattle.std.specs.List.{find}
use Rattle.std.specs.Option.{option_map}
use Rattle.std.specs.Str.{bytes_eq}
use Rattle.fx_doc_grammar.specs.Grammar.{Attr, Head}
use Rattle.fx_kinds.specs.declared.classes.Class.{Class}
use Rattle.fx_scene_names.specs.Names.{class_named}
use Rattle.fx_scene_things.specs.Names.{Names, with_name}
use Rattle.fx_scene_things.specs.declared.things.Named.{Named}
use Rattle.fx_scene_things.specs.declared.things.Thing.TheVariants as thing

abbrev pub has_name : List ℕ → Attr → Bool
has_name name attribute = bytes_eq attribute.name name

abbrev pub attribute_named : List Attr → List ℕ → Option Attr
attribute_named attributes name = find (has_name name) attributes

-- the text of the attribute of this name
abbrev pub value_at : List Attr → List ℕ → Option (List ℕ)
value_at attributes name = option_map (λ (a : Attr). a.value) (attribute_named attributes name)

abbrev pub name_if : Names → Named → Option (List ℕ) → Names
name_if names named None = names
name_if names named (Some name) = with_name names name (thing.Node named)

-- the name that these attributes give a node
abbrev pub named_by : Names → Named → List Attr → Names
named_by names named attributes = name_if names named (value_at attributes (codes "fx:id"))

-- a node behind whose name no others stand
abbrev pub plain_node : ℕ → Class → Named
plain_node node class = record { node = node; class = class; inside = None }

abbrev pub names_if : Names → ℕ → List Attr → Option Class → Names
names_if names node attributes None = names
names_if names node attributes (Some class) = named_by names (plain_node node class) attributes

abbrev pub instance_names : Names → ℕ → Head → Names
instance_names names node head = names_if names node head.attributes (class_named head.name)
