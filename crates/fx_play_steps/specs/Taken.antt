-- What taking a line makes of a stage and of what was told, where the definition gives this step.
use Rattle.std.specs.Prelude.{◌≡◌, Result, OnOk}
use Rattle.std.specs.declared.alloc.AllocError.{AllocError}
use Rattle.fx_plain_steps.specs.Courses.{Course, after}
use Rattle.fx_plain_steps.specs.Lines.{Step}

-- the step was made and printed, unless memory is wanting
abbrev pub IsMade : Step → Course → Course → Result (Unit {0}) AllocError → Type 0
IsMade step before now result = OnOk result (now ≡ after step before)
