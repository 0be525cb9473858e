-- The handlers of nodes, and which of them an event calls.
use Rattle.std.specs.Prelude.{ℕ, ◌==◌, ◌≡◌, ◌≤◌, Bool, false, if◌then◌else◌, ◌&&◌, not, List, [], ◌∷◌, ◌++◌, map, filter, count_by, position, slice_set, Option, Some, None, is_some, unwrap_or}
use Rattle.std.specs.List.{flat_map}
use Rattle.std.specs.FinMap as map_of
use Rattle.fx_base.specs.declared.keys.NodeKey.{NodeKey}
use Rattle.fx_events.specs.declared.EventError.{EventError}
use Rattle.fx_events.specs.declared.EventError.TheVariants.{Full}
use Rattle.fx_events.specs.declared.kinds.EventKind.{EventKind}
use Rattle.fx_events.specs.declared.kinds.Phase.{Phase}
use Rattle.fx_events.specs.declared.kinds.Phase.TheVariants.{Convenience}
use Rattle.fx_events.specs.declared.registrations.Registration.{Registration}
use Rattle.fx_events.specs.Events.{types_of, parts_of, is_same_type, is_same_phase}
use Rattle.fx_events.specs.Keyed.{key_cmp}

-- for each node its registrations in their order
abbrev pub HandlerMap : Type 0
HandlerMap = map_of.FinMap key_cmp (List Registration)

abbrev pub registrations_of : HandlerMap → NodeKey → List Registration
registrations_of handlers key = unwrap_or (map_of.get handlers key) []

-- the registration is for this type and in this phase
abbrev pub is_for : EventKind → Phase → Registration → Bool
is_for on phase registration = is_same_type registration.on on && is_same_phase registration.phase phase

abbrev pub is_in : Phase → Registration → Bool
is_in phase registration = is_same_phase registration.phase phase

-- the actions of this type in this phase, in order of registration
abbrev pub actions_for : EventKind → Phase → List Registration → List (List ℕ)
actions_for type phase registrations = map (λ (r : Registration). r.action) (filter (is_for type phase) registrations)

abbrev pub calls_as : Phase → List Registration → EventKind → List (List ℕ)
calls_as phase registrations type = flat_map (λ (part : Phase). actions_for type part registrations) (parts_of phase)

abbrev pub calls_at : List Registration → EventKind → Phase → List (List ℕ)
calls_at registrations on phase = flat_map (calls_as phase registrations) (types_of on)

-- what an event of this type calls at a node in this phase, in order
abbrev pub calls_of : HandlerMap → NodeKey → EventKind → Phase → List (List ℕ)
calls_of handlers key = calls_at (registrations_of handlers key)

-- the place of the registration that gives way to this one: a node has one convenience handler of a type
abbrev pub replaced_by : Registration → List Registration → Option ℕ
replaced_by new registrations =
    if is_same_phase new.phase Convenience then position (is_for new.on Convenience) registrations else None

-- the registration stands at this place, or last
abbrev pub put_at : Option ℕ → Registration → List Registration → List Registration
put_at (Some place) new registrations = slice_set registrations place new
put_at None new registrations = registrations ++ new ∷ []

abbrev pub with_registration : Registration → List Registration → List Registration
with_registration new registrations = put_at (replaced_by new registrations) new registrations

-- the node and phase have 64 registrations already, and none gives way
abbrev pub is_full : Registration → List Registration → Bool
is_full new registrations =
    (count_by (is_in new.phase) registrations == 64) && not (is_some (replaced_by new registrations))

abbrev pub add_refusal : Registration → List Registration → Option EventError
add_refusal new registrations = if is_full new registrations then Some Full else None

abbrev pub nobody : HandlerMap
nobody = map_of.empty

abbrev pub after_add : HandlerMap → NodeKey → Registration → HandlerMap
after_add handlers key new = map_of.insert handlers key (with_registration new (registrations_of handlers key))

abbrev pub after_forget : HandlerMap → NodeKey → HandlerMap
after_forget handlers key = map_of.remove handlers key

-- a node has at most 64 registrations in each phase, and at most one convenience handler of each type
pub record IsLimited (registrations : List Registration) : Type 0 where
  pub few : (phase : Phase) → count_by (is_in phase) registrations ≤ 64
  pub single : (on : EventKind) → count_by (is_for on Convenience) registrations ≤ 1

-- and so has each node
abbrev pub AreLimited : HandlerMap → Type 0
AreLimited handlers = (key : NodeKey) → IsLimited (registrations_of handlers key)
