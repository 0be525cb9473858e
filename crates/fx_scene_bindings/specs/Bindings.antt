-- What a property is bound to by a text between `${` and `}`, or what is wrong with the text.
use Rattle.std.specs.Prelude.{◌≡◌, ℕ, ◌-◌, ◌==◌, Bool, true, false, List, [], ◌∷◌, length, map, slice_get, take, Option, Some, None, Result, Ok, Err, is_some, if◌then◌else◌}
use Rattle.std.specs.List.{list_all, list_any}
use Rattle.std.specs.Option.{option_map}
use Rattle.std.specs.Str.{chars}
use Rattle.fx_base.specs.declared.kinds.Kind.{Kind}
use Rattle.fx_base.specs.declared.kinds.Kind.TheVariants as kind
use Rattle.fx_base.specs.declared.values.Value.{Value as Content}
use Rattle.fx_base.specs.declared.values.Value.TheVariants as value
use Rattle.fx_expr.specs.Filling.{filled}
use Rattle.fx_expr.specs.Reading.{reading_of}
use Rattle.fx_expr.specs.Tree.{Tree, Leaf, Two, tree}
use Rattle.fx_expr.specs.Typing.{kind_in}
use Rattle.fx_expr.specs.declared.reading.ExprError.{ExprError}
use Rattle.fx_expr.specs.declared.reading.ExprError.TheVariants as fault
use Rattle.fx_expr.specs.declared.tree.BinarySign.TheVariants as binary
use Rattle.fx_expr.specs.declared.tree.Parsed.{Parsed}
use Rattle.fx_kinds.specs.Properties.{ListedProperty}
use Rattle.fx_scene_acts.specs.declared.acts.Binding.{Binding}
use Rattle.fx_scene_acts.specs.declared.tasks.Doing.{Doing}
use Rattle.fx_scene_acts.specs.declared.tasks.Doing.TheVariants as doing
use Rattle.fx_scene_flaws.specs.declared.flaws.FaultKind.TheVariants.{Flawed}
use Rattle.fx_scene_flaws.specs.declared.flaws.Flaw.{Flaw as Mistake}
use Rattle.fx_scene_flaws.specs.declared.flaws.Flaw.TheVariants as flaw
use Rattle.fx_scene_plan.specs.declared.steps.PlannedProperty.{PlannedProperty}
use Rattle.fx_scene_plan.specs.declared.steps.PlannedStep.TheVariants as planned
use Rattle.fx_scene_things.specs.Names.{Names}
use Rattle.fx_scene_things.specs.Spaces.{Space, node_along}
use Rattle.fx_scene_things.specs.declared.things.Named.{Named}
use Rattle.fx_scene_things.specs.declared.things.Thing.{Thing}
use Rattle.fx_scene_things.specs.declared.things.Thing.TheVariants as thing
use Rattle.fx_scene_values.specs.Properties.{property_named}
use Rattle.fx_scene_values.specs.Values.{property_of}

-- an operand: a property of the node of an ordinal
pub record Operand : Type 0 where
  pub node : ℕ
  pub property : ListedProperty

-- a value that stands right in a definition
abbrev pub defined_value : Thing → Option Content
defined_value (thing.Value content true) = Some content
defined_value _ = None

abbrev pub value_if : Option Thing → Option Content
value_if None = None
value_if (Some one) = defined_value one

-- the value that a path of one name stands for
abbrev pub value_of : Names → List (List ℕ) → Option Content
value_of names (name ∷ []) = value_if (names name)
value_of names _ = None

-- the node of a path, by the names of nodes in front of the last name, which is a property's
abbrev pub node_of : List Space → Names → List (List ℕ) → Option Named
node_of spaces names path = node_along spaces names (take (length path - 1) path)

abbrev pub is_single : List (List ℕ) → Bool
is_single path = length path == 1

-- a path leads to such a value, or to a node
abbrev pub is_named : List Space → Names → List (List ℕ) → Bool
is_named spaces names path =
    if is_single path then is_some (value_of names path) else is_some (node_of spaces names path)

abbrev pub operand_at : ℕ → ListedProperty → Operand
operand_at node property = record { node = node; property = property }

abbrev pub operand_in : List ℕ → Option Named → Option Operand
operand_in property None = None
operand_in property (Some known) = option_map (operand_at known.node) (property_named known.class property)

abbrev pub operand_if : Option (List ℕ) → Option Named → Option Operand
operand_if None found = None
operand_if (Some property) found = operand_in property found

unfoldable pub operand_of : List Space → Names → List (List ℕ) → Option Operand
operand_of spaces names path = operand_if (slice_get path (length path - 1)) (node_of spaces names path)

abbrev pub with_operand : Option Operand → Option (List Operand) → Option (List Operand)
with_operand None others = None
with_operand (Some one) None = None
with_operand (Some one) (Some others) = Some (one ∷ others)

-- a value is no operand
abbrev pub with_path : Option Content → Option Operand → Option (List Operand) → Option (List Operand)
with_path (Some content) one others = others
with_path None one others = with_operand one others

-- all operands, unless one isn't there
abbrev pub operands_of : List Space → Names → List (List (List ℕ)) → Option (List Operand)
operands_of spaces names [] = Some []
operands_of spaces names (path ∷ paths) =
    with_path (value_of names path) (operand_of spaces names path) (operands_of spaces names paths)

-- the values among the paths
abbrev pub values_of : Names → List (List (List ℕ)) → List (Option Content)
values_of names paths = map (value_of names) paths

-- a path stands for a value
abbrev pub has_value : Names → List (List (List ℕ)) → Bool
has_value names paths = list_any (λ path. is_some (value_of names path)) paths

-- each path leads to something
abbrev pub are_named : List Space → Names → List (List (List ℕ)) → Bool
are_named spaces names paths = list_all (is_named spaces names) paths

-- a number or a truth is printed where a text is wanted
abbrev pub is_printed : Option Kind → Bool
is_printed (Some kind.Int) = true
is_printed (Some kind.Bool) = true
is_printed _ = false

abbrev pub is_text : Kind → Bool
is_text kind.Text = true
is_text _ = false

abbrev pub kinds_of : List Operand → List Kind
kinds_of operands = map (λ (o : Operand). o.property.kind) operands

abbrev pub as_text : Tree → Tree
as_text t = Two binary.Plus (Leaf (value.Text [])) t

abbrev pub formula_of : Kind → Tree → List Operand → Tree
formula_of want t operands =
    if is_text want then (if is_printed (kind_in t (kinds_of operands)) then as_text t else t) else t

abbrev pub planned_of : List Operand → List PlannedProperty
planned_of operands = map (λ (o : Operand). property_of o.node o.property.name) operands

abbrev pub bound_to : ℕ → ListedProperty → Tree → List Operand → Doing
bound_to node property t operands =
    doing.Step
    (planned.Bind (property_of node property.name) (formula_of property.kind t operands) (planned_of operands))

abbrev pub at_fault : Mistake → Doing
at_fault mistake = doing.Fault (Flawed mistake)

abbrev pub bound_if : ℕ → ListedProperty → Tree → Option (List Operand) → Doing
bound_if node property t None = at_fault flaw.Property
bound_if node property t (Some operands) = bound_to node property t operands

abbrev pub unbound : List Space → Names → List (List (List ℕ)) → Doing
unbound spaces names paths =
    if are_named spaces names paths then at_fault flaw.Property else at_fault flaw.Name

abbrev pub bound_over : List Space → Names → ℕ → ListedProperty → Tree → List (List (List ℕ)) → Doing
bound_over spaces names node property t paths =
    if are_named spaces names paths
    then bound_if node property (filled (values_of names paths) t) (operands_of spaces names paths)
    else at_fault flaw.Name

-- no expression; or one past its own limits; or a name that nothing has, before a property that isn't there
abbrev pub bound_by : List Space → Names → ℕ → ListedProperty → Result (Tree × List (List (List ℕ))) ExprError → Doing
bound_by spaces names node property (Ok read) = bound_over spaces names node property read.0 read.1
bound_by spaces names node property (Err fault.Syntax) = at_fault flaw.Expression
bound_by spaces names node property (Err other) = at_fault flaw.Limit

abbrev pub bound_property : List Space → Names → ℕ → List ℕ → Option ListedProperty → Doing
bound_property spaces names node text None = at_fault flaw.Property
bound_property spaces names node text (Some property) =
    bound_by spaces names node property (reading_of (chars text))

-- What is done for a binding over the names of its document, and of the documents that those include.
unfoldable pub bound : List Space → Names → Binding → Doing
bound spaces names b = bound_property spaces names b.node b.text (property_named b.class b.property)

-- the answer of the reader of expressions; want of memory says nothing
abbrev pub Reads : Result (Tree × List (List (List ℕ))) ExprError → Result Parsed ExprError → Type 0
Reads read (Ok p) = read ≡ Ok (tree p.expr, p.paths)
Reads read (Err fault.Memory) = Unit {0}
Reads read (Err fault.Syntax) = read ≡ Err fault.Syntax
Reads read (Err fault.Depth) = read ≡ Err fault.Depth
Reads read (Err fault.Operands) = read ≡ Err fault.Operands

-- what is wrong where the reader refuses
abbrev pub IsRefused : ExprError → Doing → Type 0
IsRefused fault.Memory told = ⊥
IsRefused fault.Syntax told = told ≡ at_fault flaw.Expression
IsRefused fault.Depth told = told ≡ at_fault flaw.Limit
IsRefused fault.Operands told = told ≡ at_fault flaw.Limit
