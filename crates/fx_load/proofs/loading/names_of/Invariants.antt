-- the names of the sheets so far
use Rattle.std.proofs.Common.{◌≡◌, take}
use Rattle.fx_load.proofs.loading.names_of.Given as goal

abbrev pub invariant-loop-sheet : goal.invariant-loop-sheet
invariant-loop-sheet l = l.names.items ≡ take l.sheet-index l.sheets
