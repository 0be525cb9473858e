use Rattle.std.proofs.Common.{◌≡◌, drop}
use Rattle.std.specs.Ordering.{nat_cmp}
use Rattle.std.specs.Cmp.Lexicographic.{slice_cmp}
use Rattle.std.specs.FinMap.{find}
use Rattle.fx_port.specs.Files.{file_at, files_of}
use Rattle.fx_port.specs.MemoryFiles.{entries_of}
use Rattle.fx_port.proofs.memory_files.first_named.Given as goal

abbrev pub invariant-loop-key : goal.invariant-loop-key
invariant-loop-key l =
    find (slice_cmp nat_cmp) l.name (entries_of (drop l.key-index l.files)) ≡ file_at (files_of (entries_of l.files)) l.name
