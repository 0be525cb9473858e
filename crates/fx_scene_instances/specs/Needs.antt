-- What classes are, and what instances of them need.
pub use Rattle.fx_scene_outline.specs.Nodes.{has_attribute, is_scene_node}
use Rattle.std.specs.Prelude.{Bool, true, false, not, ◌&&◌, ◌||◌, List, codes, if◌then◌else◌}
use Rattle.fx_doc_grammar.specs.Grammar.{Attr}
use Rattle.fx_kinds.specs.declared.classes.Class.{Class}
use Rattle.fx_kinds.specs.declared.classes.Class.TheVariants as class

abbrev pub is_location : Class → Bool
is_location class.Url = true
is_location _ = false

-- the value of an instance is written as text
abbrev pub needs_text : Class → Bool
needs_text class.String = true
needs_text class.Integer = true
needs_text class.Double = true
needs_text class.Boolean = true
needs_text class.Pos = true
needs_text class.Priority = true
needs_text class.HPos = true
needs_text class.VPos = true
needs_text _ = false

-- there are constants that stand for a value of the class, where text is needed
abbrev pub has_constants : Class → Bool
has_constants class.String = false
has_constants class.Boolean = false
has_constants _ = true

abbrev pub has_constant : Class → List Attr → Bool
has_constant class attributes = has_constants class && has_attribute attributes (codes "fx:constant")

abbrev pub has_text : Class → List Attr → Bool
has_text class attributes = has_attribute attributes (codes "fx:value") || has_constant class attributes

-- an attribute that an instance of a class of values needs isn't there
abbrev pub lacks_value : Class → List Attr → Bool
lacks_value class attributes =
    if is_location class then not (has_attribute attributes (codes "value"))
    else (needs_text class && not (has_text class attributes))
