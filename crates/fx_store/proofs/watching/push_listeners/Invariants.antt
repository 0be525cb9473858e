use Rattle.std.proofs.Common.{◌≡◌, ℕ, ◌++◌, map, take}
use Rattle.fx_store.proofs.watching.push_listeners.Given as goal

abbrev pub invariant-loop-number : goal.invariant-loop-number
invariant-loop-number l =
    l.heard.items ≡ l.fn.heard.items ++ map (λ (number : ℕ). (l.name, number)) (take l.number-index l.numbers)
