-- How a run ends that wrote so.
use Rattle.std.specs.Prelude.{Result, Ok, Err}
use Rattle.fx_port.specs.declared.pieces.PutError.{PutError}
use Rattle.fx_port.specs.declared.pieces.PutError.TheVariants.{Failed, Memory}
use Rattle.fxview.specs.declared.answers.ViewStatus.{ViewStatus}
use Rattle.fxview.specs.declared.answers.ViewStatus.TheVariants.{WriteFault, NoMemory}

-- as it says, or as the writing failed
abbrev pub ended_as : Result ViewStatus PutError → ViewStatus
ended_as (Ok status) = status
ended_as (Err Failed) = WriteFault
ended_as (Err Memory) = NoMemory
