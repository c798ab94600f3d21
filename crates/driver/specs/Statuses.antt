-- The exit statuses of the program.
use Rattle.std.specs.Prelude.{ℕ}
use Rattle.driver.specs.declared.status.Status.{Status}
use Rattle.driver.specs.declared.status.Status.TheVariants as status

abbrev pub status_number : Status → ℕ
status_number status.Ok = 0
status_number status.Usage = 2
status_number status.ReadFault = 3
status_number status.TooLong = 4
status_number status.BadTrace = 5
status_number status.WriteFault = 6
status_number status.OutOfMemory = 7
