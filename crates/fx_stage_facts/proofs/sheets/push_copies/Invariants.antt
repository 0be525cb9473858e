use Rattle.std.proofs.Common.{◌≡◌, ◌++◌, map, take}
use Rattle.fx_stage_facts.specs.Sheets.{from_origin}
use Rattle.fx_stage_facts.proofs.sheets.push_copies.Given as goal

abbrev pub invariant-loop-sheet : goal.invariant-loop-sheet
invariant-loop-sheet l = l.sheets ≡ l.fn.sheets ++ map (from_origin l.origin) (take l.sheet-index l.own)
