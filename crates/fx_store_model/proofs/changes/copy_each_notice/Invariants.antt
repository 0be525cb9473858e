-- the copies are the items so far
use Rattle.std.proofs.Common.{◌≡◌, take}
use Rattle.fx_store_model.proofs.changes.copy_each_notice.Given as goal

abbrev pub invariant-loop-notice : goal.invariant-loop-notice
invariant-loop-notice l = l.copies.items ≡ take l.notice-index l.notices
