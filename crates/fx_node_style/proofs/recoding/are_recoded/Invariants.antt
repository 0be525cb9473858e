use Rattle.std.proofs.Common.{◌≡◌, ◌<◌, ℕ, Some, slice_get}
use Rattle.fx_look.specs.declared.styles.CodeValue.{CodeValue}
use Rattle.fx_node_style.specs.Recoding.{IsRecoded}
use Rattle.fx_node_style.proofs.recoding.are_recoded.Given as goal

-- the pairs so far are recoded
abbrev pub invariant-loop-at : goal.invariant-loop-at
invariant-loop-at l = (k : ℕ) (old new : CodeValue) → k < l.at → slice_get l.olds k ≡ Some old
    → slice_get l.news k ≡ Some new → IsRecoded old new
