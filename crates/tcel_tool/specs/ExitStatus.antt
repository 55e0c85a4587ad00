-- The exit status of a call.
use Rattle.std.specs.Prelude.{ℕ}
use Rattle.tcel_tool.specs.declared.status.Status.{Status}
use Rattle.tcel_tool.specs.declared.status.Status.TheVariants as statuses

abbrev pub exit_status : Status → ℕ
exit_status statuses.Ok = 0
exit_status (statuses.Late late) = 1
exit_status (statuses.Overload cycles hyper) = 1
exit_status (statuses.Program kind at) = 2
exit_status (statuses.Limit fault) = 3
exit_status statuses.Words = 4
exit_status (statuses.ReadFault word) = 5
exit_status statuses.WriteFault = 6
exit_status statuses.NoMemory = 7
exit_status (statuses.Target fail) = 8
exit_status (statuses.Image fail) = 9
exit_status (statuses.Flaw flaw) = 9
exit_status (statuses.Script fail) = 10
exit_status (statuses.Breach breach) = 12
exit_status (statuses.Trace fail) = 13
exit_status (statuses.Link fail) = 11
