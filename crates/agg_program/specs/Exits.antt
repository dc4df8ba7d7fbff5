-- The exit status of the process for each end of a run.
use Rattle.std.specs.Prelude.{ℕ}
use Rattle.refusals.specs.declared.status.Status.{Status}

abbrev pub exit_number : Status → ℕ
exit_number Status.Done = 0
exit_number Status.Usage = 2
exit_number (Status.BadRequest line why) = 3
exit_number (Status.BadRow row why) = 4
exit_number (Status.BadState row column why) = 5
exit_number Status.ReadFault = 6
exit_number Status.WriteFault = 7
exit_number (Status.TooLarge size) = 8
exit_number Status.OutOfMemory = 9
