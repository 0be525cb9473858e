-- Which instances are nodes.
use Rattle.std.specs.Prelude.{ℕ, Bool, true, false, not, ◌&&◌, ◌||◌, List, codes, Option, Some, None}
use Rattle.std.specs.List.{list_any}
use Rattle.std.specs.Str.{bytes_eq}
use Rattle.fx_doc_grammar.specs.Grammar.{Attr, Head}
use Rattle.fx_kinds.specs.Classes.{is_node}
use Rattle.fx_kinds.specs.declared.classes.Class.{Class}
use Rattle.fx_kinds.specs.declared.classes.Class.TheVariants as class
use Rattle.fx_scene_names.specs.Names.{class_named}

abbrev pub is_region : Class → Bool
is_region class.Region = true
is_region _ = false

abbrev pub has_name : List ℕ → Attr → Bool
has_name name attribute = bytes_eq attribute.name name

abbrev pub has_attribute : List Attr → List ℕ → Bool
has_attribute attributes name = list_any (has_name name) attributes

-- a region with a constant stands for a number
abbrev pub is_number : Class → List Attr → Bool
is_number class attributes = is_region class && has_attribute attributes (codes "fx:constant")

abbrev pub is_scene_node : Class → List Attr → Bool
is_scene_node class attributes = is_node class && not (is_number class attributes)

-- elements with names of their own

abbrev pub is_define : List ℕ → Bool
is_define name = bytes_eq name (codes "fx:define")

abbrev pub is_reference : List ℕ → Bool
is_reference name = bytes_eq name (codes "fx:reference")

abbrev pub is_include : List ℕ → Bool
is_include name = bytes_eq name (codes "fx:include")

-- an instance of this class is a node
abbrev pub is_node_if : Head → Option Class → Bool
is_node_if head None = false
is_node_if head (Some class) = is_scene_node class head.attributes

-- an element of a definition that is a node: an instance, or the root of another document
unfoldable pub is_defined_node : Head → Bool
is_defined_node head = is_include head.name || is_node_if head (class_named head.name)
