-- How an instance comes to stand: what is wrong with its name or its place, or the steps by which its node is made.
use Rattle.std.specs.Prelude.{◌≡◌, ◌<◌, ◌+◌, ℕ, nat_le, nat_lt, Bool, true, false, ◌==◌, List, length, count_by, slice_get, slice_index, slice_set, unwrap_or, Option, Some, None, if◌then◌else◌}
use Rattle.fx_doc_grammar.specs.Grammar.{Attr, Head}
use Rattle.fx_kinds.specs.declared.classes.Class.{Class}
use Rattle.fx_scene_flaws.specs.declared.flaws.Flaw.{Flaw}
use Rattle.fx_scene_flaws.specs.declared.flaws.Flaw.TheVariants as flaw
use Rattle.fx_scene_instances.specs.Needs.{is_scene_node, lacks_value}
use Rattle.fx_scene_names.specs.Names.{lacks_import}
use Rattle.fx_scene_outline.specs.Pieces.{Piece, Include, Instance, Reference}
use Rattle.fx_scene_outline.specs.declared.pieces.Seat.{Seat}
use Rattle.fx_scene_outline.specs.declared.pieces.Seat.TheVariants as seat
use Rattle.fx_scene_plan.specs.declared.steps.PlannedStep.{PlannedStep}
use Rattle.fx_scene_plan.specs.declared.steps.PlannedStep.TheVariants as planned
use Rattle.fx_scene_read.specs.declared.opening.Stand.{Stand}
use Rattle.fx_scene_read.specs.declared.opening.Stand.TheVariants as stand
use Rattle.fx_stage_types.specs.declared.steps.Spot.TheVariants.{At, On}

-- ordinals and places

-- where a piece stands; what is no instance stands nowhere
abbrev pub seat_of : Piece → Seat
seat_of (Instance seat head) = seat
seat_of (Reference seat head) = seat
seat_of (Include seat head) = seat
seat_of _ = seat.Nowhere

-- the piece whose child stands there
abbrev pub owner_in : Seat → Option ℕ
owner_in (seat.Child owner) = Some owner
owner_in _ = None

abbrev pub is_owner : ℕ → Option ℕ → Bool
is_owner owner None = false
is_owner owner (Some other) = other == owner

abbrev pub is_child : ℕ → Piece → Bool
is_child owner piece = is_owner owner (owner_in (seat_of piece))

-- how many children a piece has
unfoldable pub children : ℕ → List Piece → ℕ
children owner pieces = count_by (is_child owner) pieces

-- the place of a child among those of its piece, behind these pieces
abbrev pub rank_in : List Piece → Option ℕ → ℕ
rank_in before None = 0
rank_in before (Some owner) = children owner before

-- where a piece is a child, its place among the children
abbrev pub rank_of : List Piece → Piece → ℕ
rank_of before piece = rank_in before (owner_in (seat_of piece))

-- each of these counts is how many children the piece at its place has
abbrev pub AreCounted : List Piece → List ℕ → Type 0
AreCounted before counts = (owner : ℕ) → owner < length counts → slice_index counts owner ≡ children owner before

-- one child more of the piece at this place, if it is counted
abbrev pub one_more : ℕ → List ℕ → List ℕ
one_more owner counts =
    if nat_lt owner (length counts) then slice_set counts owner (slice_index counts owner + 1) else counts

-- the ordinal of the node of the piece at this place, where each piece has that of the next node in front of it
abbrev pub node_at : ℕ → List ℕ → ℕ
node_at owner nodes = unwrap_or (slice_get nodes owner) 0

-- a value may not stand where a node must
abbrev pub value_flaw : Class → List Attr → Flaw
value_flaw class attributes = if lacks_value class attributes then flaw.Value else flaw.Child

-- a scene has at most 4,096 nodes
abbrev pub limit_flaw : ℕ → Option Flaw
limit_flaw node = if nat_le 4096 node then Some flaw.Limit else None

abbrev pub node_flaw : ℕ → Seat → Option Flaw
node_flaw node seat.Nowhere = Some flaw.Child
node_flaw node _ = limit_flaw node

-- what is wrong with an instance of a class at its name, where it would be this node: of all that is wrong, the first
-- in the order of flaws
unfoldable pub opening_flaw : List (List ℕ) → ℕ → Seat → Head → Class → Option Flaw
opening_flaw imports node seat head class =
    if lacks_import imports head.name class then Some flaw.Import
    else (if is_scene_node class head.attributes then node_flaw node seat
    else Some (value_flaw class head.attributes))

-- where a node comes to stand, behind these pieces with these ordinals
abbrev pub stand_at : List Piece → List ℕ → Seat → Stand
stand_at before nodes seat.Root = stand.Root
stand_at before nodes (seat.Child owner) = stand.Below (node_at owner nodes) (At (children owner before))
stand_at before nodes (seat.Edge owner edge) = stand.Below (node_at owner nodes) (On edge)
stand_at before nodes seat.Aside = stand.Aside
stand_at before nodes seat.Nowhere = stand.Aside

-- the step by which a node comes to stand there
abbrev pub stand_step : Stand → ℕ → Option PlannedStep
stand_step stand.Root node = Some (planned.Root node)
stand_step (stand.Below owner spot) node = Some (planned.Child owner node spot)
stand_step stand.Aside node = None

abbrev pub seat_step : List Piece → List ℕ → ℕ → Seat → Option PlannedStep
seat_step before nodes node seat = stand_step (stand_at before nodes seat) node
