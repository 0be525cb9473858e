-- One part of some content.
use Rattle.std.specs.Prelude.{Bool}
use Rattle.fx_doc_grammar.specs.Grammar.{Nodes, Nothing, Letters, Node}
use Rattle.fx_doc_grammar.specs.Machine.{is_nothing}
use Rattle.fx_scene_instances.specs.declared.made.Found.TheVariants.{Whole}
use Rattle.fx_scene_instances.specs.declared.made.Made.{Made}
use Rattle.fx_scene_literals.specs.Literals.{Told, child_told, letters_told, read_in, told, told_then}
use Rattle.fx_scene_literals.specs.declared.parts.Part.{Part}
use Rattle.fx_scene_things.specs.Names.{Names}
use Rattle.fx_scene_values.specs.Scopes.{Scope}

-- what one part by itself makes of what is made before it
abbrev pub item_told : Scope → Part → Bool → Made → Names → Nodes → Told
item_told scope part first made names Nothing = told (Whole made) names
item_told scope part first made names (Letters before text spot) = letters_told part first text spot names
item_told scope part first made names (Node before head inner) =
    child_told scope part first made names (λ p m k. read_in scope p m k inner) head (is_nothing inner)

abbrev pub part_told : Scope → Part → Bool → Told → Nodes → Told
part_told scope part first t item = told_then t (λ made known. item_told scope part first made known item)
