use Rattle.std.proofs.Common.{ltb, rules}
use Rattle.std.proofs.lemmas.List.Sorted.{IsPartitionPoint-from_clause, IsPartitionedBy-ltb}
use Rattle.fx_base.specs.declared.keys.Name.{Name}
use Rattle.fx_store_pairs.proofs.searching.count_below.Goals as goal

pub returns : goal.returns
returns c =
    let name = c.args.name.0 in
    let parted = IsPartitionedBy-ltb (λ (other : Name). other.0) _ name c.requires in
    IsPartitionPoint-from_clause (λ (other : Name). ltb other.0 name) _ _ c.partition_point.ensures.partitioned parted
    (λ a r q k. search rules)
