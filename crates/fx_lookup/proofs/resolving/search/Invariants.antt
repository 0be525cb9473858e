use Rattle.std.proofs.Common.{◌≡◌, ◌<◌, ℕ, map}
use Rattle.fx_lookup.specs.Lookups.{names_in, resolved, resolved_in}
use Rattle.fx_lookup.proofs.ResolvingLemmas.{left_of}
use Rattle.fx_lookup.proofs.resolving.search.Given as goal

abbrev pub invariant-loop-current : goal.invariant-loop-current
invariant-loop-current l = (m : ℕ)
    → left_of (map (λ n. n.now) l.visited.items) (names_in (map (λ n. n.now) l.chain)) < m
    → resolved_in m (map (λ n. n.now) l.chain) (map (λ n. n.now) l.visited.items) l.current
    ≡ resolved (map (λ n. n.now) l.chain) l.fn.name

abbrev pub decreases-loop-current : goal.decreases-loop-current
decreases-loop-current l = left_of (map (λ n. n.now) l.visited.items) (names_in (map (λ n. n.now) l.chain))
