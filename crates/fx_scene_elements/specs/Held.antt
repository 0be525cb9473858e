-- What a property element holds.
use Rattle.std.specs.Prelude.{ℕ, Bool, List, [], ◌++◌, if◌then◌else◌}
use Rattle.fx_base.specs.declared.positions.Position.{Position}
use Rattle.fx_doc_grammar.specs.Grammar.{Head, Nodes, Nothing, Letters, Node}
use Rattle.fx_doc_grammar.specs.Machine.{is_nothing}
use Rattle.fx_scene_acts.specs.declared.acts.Act.{Act}
use Rattle.fx_scene_elements.specs.Added.{Asked, asked, asked_then, deed_at, flaw_at, flaw_in, node_at}
use Rattle.fx_scene_elements.specs.Targets.{Target, target_kind, value_deed}
use Rattle.fx_scene_instances.specs.Instances.{is_reference}
use Rattle.fx_scene_instances.specs.References.{referred}
use Rattle.fx_scene_instances.specs.declared.made.Found.{Found}
use Rattle.fx_scene_instances.specs.declared.made.Found.TheVariants.{Whole, Flaw, Node as Unread}
use Rattle.fx_scene_instances.specs.declared.made.Made.TheVariants.{Location, Plain, Track}
use Rattle.fx_scene_literals.specs.Literals.{Told, closed, no_value, want_of}
use Rattle.fx_scene_literals.specs.Views.{item_told}
use Rattle.fx_scene_literals.specs.declared.parts.Part.TheVariants.{One}
use Rattle.fx_scene_things.specs.Names.{Names}
use Rattle.fx_scene_values.specs.Scopes.{Scope}

-- where a part stands
abbrev pub place_in : Nodes → Position
place_in Nothing = record { line = 0; column = 0 }
place_in (Letters before text spot) = spot
place_in (Node before head inner) = head.position

-- a value is given where it stands
abbrev pub found_acts : ℕ → List ℕ → Position → Target → Found → List Act
found_acts node name place target (Whole (Plain content)) = deed_at place (value_deed node name target content)
found_acts node name place target (Whole (Track track)) = []
found_acts node name place target (Whole (Location file)) = []
found_acts node name place target (Flaw mistake spot) = flaw_at spot mistake
found_acts node name place target (Unread spot) = node_at spot

abbrev pub told_acts : ℕ → List ℕ → Position → Target → Told → Asked
told_acts node name place target t = asked (found_acts node name place target t.found) t.names

abbrev pub item_asked : Scope → ℕ → List ℕ → Target → Bool → Names → Nodes → Asked
item_asked scope node name target first names item =
    told_acts node name (place_in item) target (item_told scope (One (target_kind target)) first no_value names item)

abbrev pub closed_asked : List Act → Told → Asked
closed_asked acts t = asked (acts ++ flaw_in t.found) t.names

-- a value is given by a reference before the content is looked at that a reference may not have
abbrev pub reference_asked : Scope → ℕ → List ℕ → Target → Bool → Names → Head → Nodes → Asked
reference_asked scope node name target first names head inner =
    closed_asked
    (found_acts node name head.position target (referred names (want_of (target_kind target) first) head))
    (closed scope names inner)

abbrev pub child_asked : Scope → ℕ → List ℕ → Target → Bool → Names → Head → Nodes → Nodes → Asked
child_asked scope node name target first names head inner item =
    if is_reference head.name then reference_asked scope node name target first names head inner
    else item_asked scope node name target first names item

-- one part, which is the first one or a further one
abbrev pub part_asked : Scope → ℕ → List ℕ → Target → Bool → Names → Nodes → Asked
part_asked scope node name target first names Nothing = item_asked scope node name target first names Nothing
part_asked scope node name target first names (Letters before text spot) =
    item_asked scope node name target first names (Letters before text spot)
part_asked scope node name target first names (Node before head inner) =
    child_asked scope node name target first names head inner (Node before head inner)

-- the parts one after another: a text, which stands for itself, or a value that is written as an instance or referred
-- to; more may not stand there
unfoldable pub held_asked : Scope → ℕ → List ℕ → Target → Names → Nodes → Asked
held_asked scope node name target names Nothing = asked [] names
held_asked scope node name target names (Letters before text spot) =
    asked_then (held_asked scope node name target names before)
    (λ known. part_asked scope node name target (is_nothing before) known (Letters Nothing text spot))
held_asked scope node name target names (Node before head inner) =
    asked_then (held_asked scope node name target names before)
    (λ known. part_asked scope node name target (is_nothing before) known (Node Nothing head inner))
