-- Keys of nodes as the keys of a map: by slot, and of one slot by birth.
use Rattle.std.specs.Ordering.{nat_cmp, on, then_cmp}
use Rattle.std.specs.declared.cmp.Ordering.{Ordering}
use Rattle.fx_base.specs.declared.keys.NodeKey.{NodeKey}

abbrev pub key_cmp : NodeKey → NodeKey → Ordering
key_cmp = then_cmp (on (λ (key : NodeKey). key.slot) nat_cmp) (on (λ (key : NodeKey). key.birth) nat_cmp)
