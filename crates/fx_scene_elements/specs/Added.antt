-- Acts at their places, and what is known behind them.
use Rattle.std.specs.Prelude.{Bool, List, [], ◌∷◌, ◌++◌, map}
use Rattle.std.specs.List.{list_any}
use Rattle.fx_base.specs.declared.positions.Position.{Position}
use Rattle.fx_scene_acts.specs.Acts.{act_of, is_node_act}
use Rattle.fx_scene_acts.specs.declared.acts.Act.{Act}
use Rattle.fx_scene_acts.specs.declared.acts.Deed.{Deed}
use Rattle.fx_scene_acts.specs.declared.acts.Deed.TheVariants as deed
use Rattle.fx_scene_flaws.specs.declared.flaws.Flaw.{Flaw as Mistake}
use Rattle.fx_scene_instances.specs.declared.made.Found.{Found}
use Rattle.fx_scene_instances.specs.declared.made.Found.TheVariants.{Whole, Flaw, Node}
use Rattle.fx_scene_things.specs.Names.{Names}

-- what is done at one place
abbrev pub acts_at : Position → List Deed → List Act
acts_at place deeds = map (act_of place) deeds

abbrev pub deed_at : Position → Deed → List Act
deed_at place deed = act_of place deed ∷ []

abbrev pub flaw_at : Position → Mistake → List Act
flaw_at place mistake = deed_at place (deed.Flaw mistake)

-- acts, and the names that are known behind them
pub record Asked : Type 0 where
  pub acts : List Act
  pub names : Names

abbrev pub asked : List Act → Names → Asked
asked acts names = record { acts = acts; names = names }

-- one after another
abbrev pub asked_then : Asked → (Names → Asked) → Asked
asked_then one next = asked (one.acts ++ (next one.names).acts) (next one.names).names

-- a node is read before anything behind it
abbrev pub node_at : Position → List Act
node_at place = deed_at place deed.Node

-- whether a node is read before anything behind these acts
abbrev pub stops : List Act → Bool
stops acts = list_any is_node_act acts

-- why reading stops, if it does
abbrev pub flaw_in : Found → List Act
flaw_in (Whole made) = []
flaw_in (Flaw mistake spot) = flaw_at spot mistake
flaw_in (Node spot) = node_at spot
