-- the names so far stand behind what stood there
use Rattle.std.proofs.Common.{◌≡◌, ◌++◌, ◌∷◌, take}
use Rattle.std.specs.List.{flat_map}
use Rattle.fx_text.specs.Characters.{full_stop}
use Rattle.fx_stage_text.proofs.paths.put_others.Given as goal

abbrev pub invariant-loop-name : goal.invariant-loop-name
invariant-loop-name l =
    l.out.items ≡ l.fn.out.items ++ flat_map (λ name. full_stop ∷ name) (take l.name-index l.names)
