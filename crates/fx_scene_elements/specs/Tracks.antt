-- The constraints of columns and rows as elements. A grid has those of all its elements of one name, in their order.
use Rattle.std.specs.Prelude.{ℕ, ◌+◌, Bool, true, false, ◌==◌, ◌&&◌, nat_le, List, [], ◌∷◌, ◌++◌, filter, length, map, Result, Ok, Err, if◌then◌else◌}
use Rattle.std.specs.Bool.{beq}
use Rattle.fx_base.specs.declared.facts.Track.{Track as Constraint}
use Rattle.fx_base.specs.declared.positions.Position.{Position}
use Rattle.fx_doc_grammar.specs.Grammar.{Head, Nodes, Nothing, Letters, Node}
use Rattle.fx_kinds.specs.declared.classes.Class.{Class}
use Rattle.fx_scene_acts.specs.declared.acts.Act.{Act}
use Rattle.fx_scene_acts.specs.declared.acts.Deed.TheVariants.{Step}
use Rattle.fx_scene_elements.specs.Added.{deed_at, flaw_at, flaw_in, stops}
use Rattle.fx_scene_elements.specs.declared.lanes.Lane.{Lane}
use Rattle.fx_scene_flaws.specs.declared.flaws.Flaw.{Flaw as Mistake}
use Rattle.fx_scene_flaws.specs.declared.flaws.Flaw.TheVariants as flaw
use Rattle.fx_scene_instances.specs.Instances.{entered, is_reference}
use Rattle.fx_scene_instances.specs.References.{referred}
use Rattle.fx_scene_instances.specs.declared.instances.Want.{Want}
use Rattle.fx_scene_instances.specs.declared.instances.Want.TheVariants as want
use Rattle.fx_scene_instances.specs.declared.made.Found.{Found}
use Rattle.fx_scene_instances.specs.declared.made.Found.TheVariants.{Whole, Flaw, Node as Unread}
use Rattle.fx_scene_instances.specs.declared.made.Made.TheVariants.{Location, Plain, Track}
use Rattle.fx_scene_literals.specs.Literals as literal
use Rattle.fx_scene_literals.specs.Literals.{closed, whole}
use Rattle.fx_scene_plan.specs.declared.steps.PlannedStep.TheVariants as planned
use Rattle.fx_scene_things.specs.Names.{Names}
use Rattle.fx_scene_values.specs.Scopes.{Scope}

-- what is wrong in a list, what it has, and the names that are known behind it
pub record Told : Type 0 where
  pub acts : List Act
  pub tracks : List Constraint
  pub names : Names

abbrev pub told : List Act → List Constraint → Names → Told
told acts tracks names = record { acts = acts; tracks = tracks; names = names }

abbrev pub wrong : Position → Mistake → Names → Told
wrong place mistake names = told (flaw_at place mistake) [] names

abbrev pub tracks_in : Found → List Constraint
tracks_in (Whole (Track track)) = track ∷ []
tracks_in (Whole (Plain content)) = []
tracks_in (Whole (Location name)) = []
tracks_in (Flaw mistake spot) = []
tracks_in (Unread spot) = []

abbrev pub found_told : literal.Told → Told
found_told t = told (flaw_in t.found) (tracks_in t.found) t.names

-- a grid has at most 256 columns and 256 rows with constraints
abbrev pub class_told : Scope → Names → ℕ → Head → Nodes → Class → Told
class_told scope names count head inner class =
    if nat_le 256 count then wrong head.position flaw.Limit names
    else found_told (whole scope names head inner class false)

abbrev pub entered_told : Scope → Names → ℕ → Head → Nodes → Result Class Mistake → Told
entered_told scope names count head inner (Err mistake) = wrong head.position mistake names
entered_told scope names count head inner (Ok class) = class_told scope names count head inner class

abbrev pub item_told : Scope → Want → Names → ℕ → Head → Nodes → Told
item_told scope wanted names count head inner = entered_told scope names count head inner (entered scope wanted head)

-- the content that a reference may not have is looked at last
abbrev pub closed_told : List Act → List Constraint → literal.Told → Told
closed_told acts tracks t = told (acts ++ flaw_in t.found) tracks t.names

abbrev pub limited : ℕ → Position → Found → Found
limited count place (Whole made) = if nat_le 256 count then Flaw flaw.Limit place else Whole made
limited count place (Flaw mistake spot) = Flaw mistake spot
limited count place (Unread spot) = Unread spot

abbrev pub referred_told : Found → literal.Told → Told
referred_told found t = closed_told (flaw_in found) (tracks_in found) t

abbrev pub reference_told : Scope → Want → Names → ℕ → Head → Nodes → Told
reference_told scope wanted names count head inner =
    referred_told (limited count head.position (referred names wanted head)) (closed scope names inner)

abbrev pub child_told : Scope → Want → Names → ℕ → Head → Nodes → Told
child_told scope wanted names count head inner =
    if is_reference head.name then reference_told scope wanted names count head inner
    else item_told scope wanted names count head inner

-- one part, behind so many constraints
abbrev pub part_told : Scope → Want → Names → ℕ → Nodes → Told
part_told scope wanted names count Nothing = told [] [] names
part_told scope wanted names count (Letters before text spot) = wrong spot flaw.Child names
part_told scope wanted names count (Node before head inner) = child_told scope wanted names count head inner

abbrev pub both : Told → Told → Told
both one other = told (one.acts ++ other.acts) (one.tracks ++ other.tracks) other.names

-- nothing is read behind a node that is read first
abbrev pub next_told : Bool → Scope → Want → Names → ℕ → Nodes → Told
next_told true scope wanted names count item = told [] [] names
next_told false scope wanted names count item = part_told scope wanted names count item

-- one part behind others, which stand behind so many constraints
abbrev pub with_part : Scope → Want → ℕ → Told → Nodes → Told
with_part scope wanted earlier before item =
    both before (next_told (stops before.acts) scope wanted before.names (earlier + length before.tracks) item)

unfoldable pub tracks_told : Scope → Want → ℕ → Names → Nodes → Told
tracks_told scope wanted earlier names Nothing = told [] [] names
tracks_told scope wanted earlier names (Letters before text spot) =
    with_part scope wanted earlier (tracks_told scope wanted earlier names before) (Letters Nothing text spot)
tracks_told scope wanted earlier names (Node before head inner) =
    with_part scope wanted earlier (tracks_told scope wanted earlier names before) (Node Nothing head inner)

-- those of the elements of the grid that stand before

abbrev pub is_lane : ℕ → Bool → Lane → Bool
is_lane owner is_row lane = (lane.owner == owner) && beq lane.is_row is_row

-- the columns or the rows of the grid at this place
abbrev pub tracks_of : List Lane → ℕ → Bool → List Constraint
tracks_of lanes owner is_row = map (λ (lane : Lane). lane.track) (filter (is_lane owner is_row) lanes)

abbrev pub lane_of : ℕ → Bool → Constraint → Lane
lane_of owner is_row track = record { owner = owner; is_row = is_row; track = track }

abbrev pub lanes_of : ℕ → Bool → List Constraint → List Lane
lanes_of owner is_row tracks = map (lane_of owner is_row) tracks

abbrev pub tracks_step : ℕ → Position → List Constraint → List Constraint → List Act
tracks_step node place columns rows = deed_at place (Step (planned.Tracks node columns rows))

-- further columns, and further rows

abbrev pub columns_told : Scope → Names → List Lane → ℕ → Nodes → Told
columns_told scope names lanes owner content =
    tracks_told scope want.Column (length (tracks_of lanes owner false)) names content

abbrev pub rows_told : Scope → Names → List Lane → ℕ → Nodes → Told
rows_told scope names lanes owner content =
    tracks_told scope want.Row (length (tracks_of lanes owner true)) names content

abbrev pub column_acts : Position → List Lane → ℕ → ℕ → Told → List Act
column_acts place lanes owner node more =
    more.acts ++ tracks_step node place (tracks_of lanes owner false ++ more.tracks) (tracks_of lanes owner true)

abbrev pub row_acts : Position → List Lane → ℕ → ℕ → Told → List Act
row_acts place lanes owner node more =
    more.acts ++ tracks_step node place (tracks_of lanes owner false) (tracks_of lanes owner true ++ more.tracks)
