-- Where two trees have the same children, so have those that stand over them.
use Rattle.std.proofs.Common.{refl, ◌≡◌, Option, None, Some, unwrap_or}
use Rattle.fx_layout_sweeps.specs.Nodes.{Parents, children_lists}

pub over_same : (fresh : Option Parents) (one other : Parents) → children_lists one ≡ children_lists other
    → children_lists (unwrap_or fresh one) ≡ children_lists (unwrap_or fresh other)
over_same None one other same = same
over_same (Some tree) one other same = refl
