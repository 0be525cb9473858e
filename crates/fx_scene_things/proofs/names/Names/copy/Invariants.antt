-- the names of the last entries, from the one at this place on
use Rattle.std.proofs.Common.{◌≡◌, ◌≤◌, drop, length, string_bytes}
use Rattle.fx_scene_things.specs.Known.{known}
use Rattle.fx_scene_things.proofs.NameLemmas.{seen}
use Rattle.fx_scene_things.proofs.names.Names.copy.Given as goal

abbrev pub invariant-loop-left : goal.invariant-loop-left
invariant-loop-left l =
    (known l.names ≡ seen (λ k. string_bytes k) (drop l.left l.self.things.entries))
    × (l.left ≤ length l.self.things.entries)

abbrev pub decreases-loop-left : goal.decreases-loop-left
decreases-loop-left l = l.left
