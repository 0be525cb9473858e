-- sorted by their numbers, which are distinct
use Rattle.std.proofs.Common.{Bor, rules}
use Rattle.std.proofs.lemmas.List.Sorted.{IsNonDecreasingBy-from_sort_by_key}
use Rattle.fx_picture.specs.declared.entries.Entry.{Entry}
use Rattle.fx_damage.proofs.OrderLemmas.{lent_moved, lent_rise}
use Rattle.fx_damage.proofs.ordering.sort_by_birth.Goals as goal

pub returns-clause-same : goal.returns-clause-same
returns-clause-same c = lent_moved _ _ c.sort_unstable_by_key.ensures.permutation

pub returns-clause-rising : goal.returns-clause-rising
returns-clause-rising c =
    lent_rise _ _ c.requires c.sort_unstable_by_key.ensures.permutation
    (IsNonDecreasingBy-from_sort_by_key (λ (r : Bor Entry). r.now.key.birth) _ c.sort_unstable_by_key.ensures.sorted (λ a r q k. search rules))
