-- What the program shows: its output, or a line and a status.
use Rattle.std.specs.Prelude.{ℕ, List, [], Option, Some, None, Result, Ok, Err, codes}
use Rattle.std.specs.declared.io.ErrorKind.{ErrorKind}
use Rattle.x509_tool_parts.specs.declared.console.Stop.{Stop}
use Rattle.x509_tool_parts.specs.declared.console.Stop.TheVariants.{Fault, Console}
use Rattle.x509_tool_parts.specs.declared.fault.ToolFault.TheVariants.{OutOfMemory}
use Rattle.x509_tool_parts.specs.Faults.{status_of, line_of}
use Rattle.std.specs.declared.io.ErrorKind.TheVariants as kind

abbrev pub status_of_stop : Stop → ℕ
status_of_stop (Fault fault) = status_of fault
status_of_stop Console = 5

abbrev pub line_of_stop : Stop → List ℕ
line_of_stop (Fault fault) = line_of fault
line_of_stop Console = codes "input or output failed"

-- what the system refuses is memory, or the console
abbrev pub stop_of_kind : ErrorKind → Stop
stop_of_kind kind.OutOfMemory = Fault OutOfMemory
stop_of_kind _ = Console

-- what the program shows of an outcome
abbrev pub output_of : {V : Type 0} → Result V Stop → Option V
output_of (Ok output) = Some output
output_of (Err stop) = None

abbrev pub line_of_outcome : {V : Type 0} → Result V Stop → List ℕ
line_of_outcome (Ok output) = []
line_of_outcome (Err stop) = line_of_stop stop

abbrev pub status_of_outcome : {V : Type 0} → Result V Stop → ℕ
status_of_outcome (Ok output) = 0
status_of_outcome (Err stop) = status_of_stop stop
