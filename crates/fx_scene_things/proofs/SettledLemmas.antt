-- The first node at a place, found in the list of nodes and in the list of what is seen of them.
use Rattle.std.proofs.Common.{◌≡◌, List, map, Option, Some, None, refl, sym, ◌∙◌, ap, Bor}
use Rattle.std.specs.List.{find}
use Rattle.std.specs.Option.{option_map}
use Rattle.fx_base.specs.declared.positions.Position.{Position}
use Rattle.fx_scene_things.specs.Known.{known, settled_view}
use Rattle.fx_scene_things.specs.Names.{Names}
use Rattle.fx_scene_things.specs.Settled.{Settled as PlainSettled, is_at, names_behind}
use Rattle.fx_scene_things.specs.declared.settled.Settled.{Settled}
use Rattle.fx_scene_things.proofs.SpaceLemmas.{find-map}

abbrev names_of : Option PlainSettled → Option Names
names_of found = option_map (λ (node : PlainSettled). node.names) found

abbrev Found : Type 0
Found = Option (Bor Settled)

by_found : (nodes : List Settled) (place : Position) (found : Found)
    → option_map (λ (node : Bor Settled). node.now) found ≡ find (λ (node : Settled). is_at place (settled_view node)) nodes
    → names_behind (map settled_view nodes) place
    ≡ names_of (option_map (λ (node : Bor Settled). settled_view node.now) found)
by_found nodes place found e =
    ap names_of (find-map (is_at place) settled_view nodes ∙ (ap (option_map settled_view) (sym e) ∙ joined found))
  where
    joined : (o : Found) → option_map settled_view (option_map (λ (node : Bor Settled). node.now) o) ≡ option_map (λ (node : Bor Settled). settled_view node.now) o
    joined None = refl
    joined (Some node) = refl

pub node_found : (nodes : List Settled) (place : Position) (found : Found) (node : Bor Settled) → found ≡ Some node
    → option_map (λ (s : Bor Settled). s.now) found ≡ find (λ (s : Settled). is_at place (settled_view s)) nodes
    → Some (known node.now.names) ≡ names_behind (map settled_view nodes) place
node_found nodes place found node is e =
    sym (by_found nodes place found e ∙ ap (λ (o : Found). names_of (option_map (λ (s : Bor Settled). settled_view s.now) o)) is)

pub no_node : (nodes : List Settled) (place : Position) (found : Found) → found ≡ None
    → option_map (λ (s : Bor Settled). s.now) found ≡ find (λ (s : Settled). is_at place (settled_view s)) nodes
    → None ≡ names_behind (map settled_view nodes) place
no_node nodes place found is e =
    sym (by_found nodes place found e ∙ ap (λ (o : Found). names_of (option_map (λ (s : Bor Settled). settled_view s.now) o)) is)
