-- Style classes and style sheets as elements: lists of texts and of locations.
use Rattle.std.specs.Prelude.{ℕ, Bool, true, false, List, [], ◌++◌, Result, Ok, Err, if◌then◌else◌}
use Rattle.fx_doc_grammar.specs.Grammar.{Head, Nodes, Nothing, Letters, Node}
use Rattle.fx_kinds.specs.declared.classes.Class.{Class}
use Rattle.fx_scene_elements.specs.Added.{Asked, asked, asked_then, flaw_at, stops}
use Rattle.fx_scene_elements.specs.Entries.{named_acts, referred_acts}
use Rattle.fx_scene_elements.specs.Held.{closed_asked}
use Rattle.fx_scene_elements.specs.declared.entries.Entry.{Entry}
use Rattle.fx_scene_flaws.specs.declared.flaws.Flaw.{Flaw as Mistake}
use Rattle.fx_scene_flaws.specs.declared.flaws.Flaw.TheVariants as flaw
use Rattle.fx_scene_instances.specs.Instances.{entered, is_reference}
use Rattle.fx_scene_instances.specs.References.{referred}
use Rattle.fx_scene_instances.specs.declared.instances.Want.TheVariants as want
use Rattle.fx_scene_literals.specs.Literals.{Told, closed, whole}
use Rattle.fx_scene_things.specs.Names.{Names}
use Rattle.fx_scene_values.specs.Scopes.{Scope}

abbrev pub named_asked : Entry → ℕ → Head → Told → Asked
named_asked kind node head t = asked (named_acts kind node head t.found) t.names

-- a value that stands in a list is no definition
abbrev pub whole_item : Scope → Names → Head → Nodes → Class → Told
whole_item scope names head inner class = whole scope names head inner class false

abbrev pub entered_item : Entry → Scope → Names → ℕ → Head → Nodes → Result Class Mistake → Asked
entered_item kind scope names node head inner (Err mistake) = asked (flaw_at head.position mistake) names
entered_item kind scope names node head inner (Ok class) =
    named_asked kind node head (whole_item scope names head inner class)

abbrev pub instance_item : Entry → Scope → Names → ℕ → Head → Nodes → Asked
instance_item kind scope names node head inner =
    entered_item kind scope names node head inner (entered scope want.Name head)

abbrev pub reference_item : Entry → Scope → Names → ℕ → Head → Nodes → Asked
reference_item kind scope names node head inner =
    closed_asked (referred_acts kind node head.position (referred names want.Name head)) (closed scope names inner)

abbrev pub item_asked : Entry → Scope → Names → ℕ → Nodes → Asked
item_asked kind scope names node Nothing = asked [] names
item_asked kind scope names node (Letters before text spot) = asked (flaw_at spot flaw.Child) names
item_asked kind scope names node (Node before head inner) =
    if is_reference head.name then reference_item kind scope names node head inner
    else instance_item kind scope names node head inner

-- nothing is read behind a node that is read first
abbrev pub next_asked : Bool → Entry → Scope → Names → ℕ → Nodes → Asked
next_asked true kind scope names node item = asked [] names
next_asked false kind scope names node item = item_asked kind scope names node item

-- an item behind others
abbrev pub with_item : Entry → Scope → ℕ → Asked → Nodes → Asked
with_item kind scope node before item =
    asked_then before (λ known. next_asked (stops before.acts) kind scope known node item)

-- a style class or a style sheet for each instance and each reference
unfoldable pub list_asked : Entry → Scope → Names → ℕ → Nodes → Asked
list_asked kind scope names node Nothing = asked [] names
list_asked kind scope names node (Letters before text spot) =
    with_item kind scope node (list_asked kind scope names node before) (Letters Nothing text spot)
list_asked kind scope names node (Node before head inner) =
    with_item kind scope node (list_asked kind scope names node before) (Node Nothing head inner)
