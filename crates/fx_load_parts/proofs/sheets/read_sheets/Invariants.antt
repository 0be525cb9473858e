-- the sheets so far are completed by those that are left
use Rattle.std.proofs.Common.{◌≡◌, ◌≤◌, Some}
use Rattle.fx_load_parts.proofs.SheetLemmas.{Completes}
use Rattle.fx_port.specs.Files.{Files}
use Rattle.fx_load_parts.proofs.sheets.read_sheets.Given as goal

abbrev pub invariant-loop-file : goal.invariant-loop-file
invariant-loop-file g l =
    let shelf = g.F.Shelf in
    record {
      held : shelf.held l.shelf ≡ shelf.held l.fn.shelf;
      later : shelf.faults l.fn.shelf ≤ shelf.faults l.shelf;
      completes : (files : Files) → shelf.held l.fn.shelf ≡ Some files → Completes files l.names l.file l.sheets.items;
    }
