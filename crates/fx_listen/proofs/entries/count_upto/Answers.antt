use Rattle.std.proofs.Common.{◌≡◌, rules, take, drop, filter}
use Rattle.std.proofs.lemmas.List.Sorted.{IsPartitionPoint-from_clause, IsPartitionedBy-leb}
use Rattle.fx_listen.specs.declared.entries.Listener.{Listener}
use Rattle.fx_listen.specs.Sorting.{is_upto, is_above}
use Rattle.fx_listen.proofs.Cuts.{parts_at_point}
use Rattle.fx_listen.proofs.Finding.{names_rise, not_upto}
use Rattle.fx_listen.proofs.entries.count_upto.Goals as goal

cut : (c : goal.After-partition_point)
    → (take c.partition_point.result c.args.listeners.now ≡ filter (is_upto c.args.name.0) c.args.listeners.now)
    × (drop c.partition_point.result c.args.listeners.now ≡ filter (is_above c.args.name.0) c.args.listeners.now)
cut c =
    let name = c.args.name.0 in
    let parted = IsPartitionedBy-leb (λ (l : Listener). l.name.0) _ name (names_rise _ c.requires) in
    parts_at_point (is_upto name) (is_above name) (λ l. not_upto l.name.0 name) _ _ c.partition_point.ensures.bound
    (IsPartitionPoint-from_clause (is_upto name) _ _ c.partition_point.ensures.partitioned parted (λ a r q k. search rules))

pub returns-clause-front : goal.returns-clause-front
returns-clause-front c = (cut c).0

pub returns-clause-rest : goal.returns-clause-rest
returns-clause-rest c = (cut c).1
