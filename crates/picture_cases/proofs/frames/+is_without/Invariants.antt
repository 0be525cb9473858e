use Rattle.std.proofs.Common.{length}
use Rattle.picture_cases.proofs.frames.+is_without.Given as goal

abbrev pub decreases-is_without : goal.decreases-is_without
decreases-is_without l = length l.entries.now
