use Rattle.std.proofs.Common.{◌≡◌, rules, take, drop, filter}
use Rattle.std.proofs.lemmas.List.Sorted.{IsPartitionPoint-from_clause, IsPartitionedBy-ltb}
use Rattle.fx_listen.specs.declared.entries.Listener.{Listener}
use Rattle.fx_listen.specs.Sorting.{is_below, is_from}
use Rattle.fx_listen.proofs.Cuts.{parts_at_point}
use Rattle.fx_listen.proofs.Finding.{names_rise, not_below}
use Rattle.fx_listen.proofs.entries.count_below.Goals as goal

cut : (c : goal.After-partition_point)
    → (take c.partition_point.result c.args.listeners.now ≡ filter (is_below c.args.name.0) c.args.listeners.now)
    × (drop c.partition_point.result c.args.listeners.now ≡ filter (is_from c.args.name.0) c.args.listeners.now)
cut c =
    let name = c.args.name.0 in
    let parted = IsPartitionedBy-ltb (λ (l : Listener). l.name.0) _ name (names_rise _ c.requires) in
    parts_at_point (is_below name) (is_from name) (λ l. not_below l.name.0 name) _ _ c.partition_point.ensures.bound
    (IsPartitionPoint-from_clause (is_below name) _ _ c.partition_point.ensures.partitioned parted (λ a r q k. search rules))

pub returns-clause-front : goal.returns-clause-front
returns-clause-front c = (cut c).0

pub returns-clause-rest : goal.returns-clause-rest
returns-clause-rest c = (cut c).1
