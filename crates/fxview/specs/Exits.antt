-- The exit statuses of the program.
use Rattle.std.specs.Prelude.{ℕ}
use Rattle.fxview.specs.declared.answers.ViewStatus.{ViewStatus}
use Rattle.fxview.specs.declared.answers.ViewStatus.TheVariants.{Done, Usage, Refused, ReadFault, WriteFault, NoMemory}

-- the number that the process ends with
abbrev pub status_number : ViewStatus → ℕ
status_number Done = 0
status_number Usage = 2
status_number Refused = 3
status_number ReadFault = 4
status_number WriteFault = 5
status_number NoMemory = 6
