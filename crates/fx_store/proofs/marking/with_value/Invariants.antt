use Rattle.std.proofs.Common.{◌≡◌, map, take}
use Rattle.fx_base.specs.declared.keys.Name.{Name}
use Rattle.fx_store.proofs.marking.with_value.Given as goal

abbrev pub invariant-loop-name : goal.invariant-loop-name
invariant-loop-name l = l.pairs.items ≡ map (λ (name : Name). (name, l.value)) (take l.name-index l.names)
