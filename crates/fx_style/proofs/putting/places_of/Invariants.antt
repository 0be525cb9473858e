use Rattle.std.proofs.Common.{◌≡◌, ◌++◌, map, drop}
use Rattle.fx_style.proofs.putting.places_of.Given as goal

abbrev pub invariant-loop-one : goal.invariant-loop-one
invariant-loop-one l =
    l.places.items ++ map (λ f. f.at) (drop l.one-index l.fresh) ≡ map (λ f. f.at) l.fresh
