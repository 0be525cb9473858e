-- the way from here along the parts that are left is the whole way
use Rattle.std.proofs.Common.{◌≡◌, map, drop, List, ℕ, Bor}
use Rattle.fx_scene_places.specs.Places.{walked}
use Rattle.fx_scene_places.proofs.walking.walk.Given as goal

abbrev texts : List (Bor (List ℕ)) → List (List ℕ)
texts parts = map (λ (part : Bor (List ℕ)). part.now) parts

abbrev pub invariant-loop-part : goal.invariant-loop-part
invariant-loop-part l =
    walked (texts l.folder.items) (texts (drop l.part-index l.parts)) ≡ walked (texts l.fn.folder.items) (texts l.fn.parts)
