-- The exit statuses of the program.
use Rattle.std.specs.Prelude.{ℕ}
use Rattle.fx_plain.specs.declared.answers.Status.{Status}
use Rattle.fx_plain.specs.declared.answers.Status.TheVariants.{Done, Usage, Refused, ReadFault, WriteFault, NoMemory}

-- the number that the process ends with
abbrev pub status_number : Status → ℕ
status_number Done = 0
status_number Usage = 2
status_number Refused = 3
status_number ReadFault = 4
status_number WriteFault = 5
status_number NoMemory = 6
