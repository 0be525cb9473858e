-- the rules so far are listed behind what was there
use Rattle.std.proofs.Common.{◌≡◌, ◌++◌, take}
use Rattle.fx_select.specs.Keys.{Key}
use Rattle.fx_select.specs.Listing.{listed, sheet_entries, under_key}
use Rattle.fx_select.proofs.index.RuleIndex.list_sheet.Given as goal

abbrev pub invariant-loop-place : goal.invariant-loop-place
invariant-loop-place l = (key : Key)
    → listed l.self key ≡ listed l.initial.self key ++ under_key key (sheet_entries l.sheet (take l.place l.rules))
