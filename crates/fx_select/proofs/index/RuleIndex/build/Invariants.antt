-- the sheets so far are listed
use Rattle.std.proofs.Common.{◌≡◌, take}
use Rattle.fx_select.specs.Keys.{Key}
use Rattle.fx_select.specs.Listing.{entries, listed, under_key}
use Rattle.fx_select.proofs.index.RuleIndex.build.Given as goal

abbrev pub invariant-loop-place : goal.invariant-loop-place
invariant-loop-place l = (key : Key) → listed l.index key ≡ under_key key (entries (take l.place l.sheets))
