-- An instance where a value or a part of a list is wanted: which class it is of, or what is wrong at its name.
pub use Rattle.fx_scene_outline.specs.Nodes.{is_define, is_include, is_reference}
use Rattle.std.specs.Prelude.{ℕ, Bool, true, false, ◌||◌, List, codes, Option, Some, None, Result, Ok, Err, if◌then◌else◌}
use Rattle.fx_base.specs.declared.kinds.Kind.{Kind}
use Rattle.fx_base.specs.declared.kinds.Kind.TheVariants as kind
use Rattle.fx_doc_grammar.specs.Grammar.{Head}
use Rattle.fx_graph_model.specs.Equality.{same_kind}
use Rattle.fx_kinds.specs.Classes.{value_kind}
use Rattle.fx_kinds.specs.declared.classes.Class.{Class}
use Rattle.fx_kinds.specs.declared.classes.Class.TheVariants as class
use Rattle.fx_scene_flaws.specs.declared.flaws.Flaw.{Flaw}
use Rattle.fx_scene_flaws.specs.declared.flaws.Flaw.TheVariants as flaw
use Rattle.fx_scene_instances.specs.Needs.{has_attribute, is_location, is_scene_node, lacks_value}
use Rattle.fx_scene_instances.specs.declared.instances.Want.{Want}
use Rattle.fx_scene_instances.specs.declared.instances.Want.TheVariants as want
use Rattle.fx_scene_names.specs.Names.{class_named, is_instance, lacks_import}
use Rattle.fx_scene_values.specs.Scopes.{Scope}

-- the kind of the values that instances of the class are; a region stands for a number by a constant
abbrev pub kind_of : Class → Option Kind
kind_of class.Region = Some kind.Int
kind_of class = value_kind class

abbrev pub is_column : Class → Bool
is_column class.ColumnConstraints = true
is_column _ = false

abbrev pub is_row : Class → Bool
is_row class.RowConstraints = true
is_row _ = false

abbrev pub flaw_unless : Bool → Flaw → Option Flaw
flaw_unless fits mistake = if fits then None else Some mistake

abbrev pub kind_flaw : Kind → Option Kind → Option Flaw
kind_flaw wanted None = Some flaw.Child
kind_flaw wanted (Some kind) = flaw_unless (same_kind kind wanted) flaw.Kinds

-- a value of another kind is told of before one too many
abbrev pub more_flaw : Option Flaw → Option Flaw
more_flaw (Some mistake) = Some mistake
more_flaw None = Some flaw.Child

-- a style class may be a location, too
abbrev pub name_flaw : Class → Option Flaw
name_flaw class = if is_location class then None else kind_flaw kind.Text (kind_of class)

-- what is wrong with an instance of the class, which is no node, where this is wanted
abbrev pub misfit : Want → Class → Option Flaw
misfit (want.Value kind) class = kind_flaw kind (kind_of class)
misfit (want.Another kind) class = more_flaw (kind_flaw kind (kind_of class))
misfit want.Name class = name_flaw class
misfit want.Column class = flaw_unless (is_column class) flaw.Child
misfit want.Row class = flaw_unless (is_row class) flaw.Child
misfit want.Defined class = None
misfit want.Nothing class = Some flaw.Child

abbrev pub unless_flaw : Class → Option Flaw → Result Class Flaw
unless_flaw class (Some mistake) = Err mistake
unless_flaw class None = Ok class

-- of all that is wrong, the first in the order of flaws
abbrev pub class_fit : Scope → Want → Head → Class → Result Class Flaw
class_fit scope wanted head class =
    if lacks_import scope.imports head.name class then Err flaw.Import
    else (if is_scene_node class head.attributes then Err flaw.Child
    else (if lacks_value class head.attributes then Err flaw.Value else unless_flaw class (misfit wanted class)))

abbrev pub class_if : Scope → Want → Head → Option Class → Result Class Flaw
class_if scope wanted head None = Err flaw.Class
class_if scope wanted head (Some class) = class_fit scope wanted head class

-- elements that are no instances

-- a reference may not stand there, nor may an include, which is a node
abbrev pub insert_flaw : Head → Flaw
insert_flaw head = if has_attribute head.attributes (codes "source") then flaw.Child else flaw.Value

abbrev pub outside_flaw : Head → Flaw
outside_flaw head =
    if is_include head.name || is_reference head.name then insert_flaw head
    else (if is_define head.name then flaw.Child else flaw.Property)

-- the class of an instance that may stand where this is wanted, or what is wrong with an element at its name
unfoldable pub entered : Scope → Want → Head → Result Class Flaw
entered scope wanted head =
    if is_instance head.name then class_if scope wanted head (class_named head.name)
    else Err (outside_flaw head)
