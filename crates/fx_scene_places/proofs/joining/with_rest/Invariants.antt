-- the name so far stands in front of the parts that are left
use Rattle.std.proofs.Common.{◌≡◌, ◌++◌, map, drop, List, ℕ, Bor}
use Rattle.std.specs.String.{string_bytes}
use Rattle.fx_scene_places.specs.Places.{rest_name}
use Rattle.fx_scene_places.proofs.joining.with_rest.Given as goal

abbrev texts : List (Bor (List ℕ)) → List (List ℕ)
texts parts = map (λ (part : Bor (List ℕ)). part.now) parts

abbrev pub invariant-loop-part : goal.invariant-loop-part
invariant-loop-part l =
    string_bytes l.name ++ rest_name (texts (drop l.part-index l.rest)) ≡ l.first ++ rest_name (texts l.rest)
