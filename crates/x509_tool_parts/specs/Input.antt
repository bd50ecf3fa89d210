-- The program's argument and its input.
use Rattle.std.specs.Prelude.{◌≡◌, ◌++◌, ◌==◌, ◌⊎◌, if◌then◌else◌, ℕ, List, Option, Some, None, Result, Ok, Err}
use Rattle.std.specs.Io.KnownBytes.{Consumes}
use Rattle.std.specs.IoError.{error_kind}
use Rattle.std.specs.declared.io.Error.{Error}
use Rattle.std.specs.declared.io.ErrorKind.{ErrorKind}
use Rattle.x509_tool_parts.specs.declared.console.Stop.{Stop}
use Rattle.x509_tool_parts.specs.declared.console.Stop.TheVariants.{Fault, Console}
use Rattle.x509_tool_parts.specs.declared.console.OneRead.{OneRead}
use Rattle.x509_tool_parts.specs.declared.console.OneRead.TheVariants.{End, Bytes, Again}
use Rattle.x509_tool_parts.specs.declared.fault.ToolFault.TheVariants.{OutOfMemory, Usage}
use Rattle.x509_tool_parts.specs.Stops.{stop_of_kind}
use Rattle.std.specs.declared.io.ErrorKind.TheVariants as kind

-- the first, where there is no second
abbrev pub only_of : {T : Type 0} → Option T → Option T → Result T Stop
only_of (Some name) None = Ok name
only_of (Some name) (Some more) = Err (Fault Usage)
only_of None second = Err (Fault Usage)

-- a reader gave up bytes, which now stand at the input's end
abbrev pub Grows : Option (List ℕ) → Option (List ℕ) → List ℕ → List ℕ → Type 0
Grows left new before after = (bytes : List ℕ) × Consumes left new bytes × (after ≡ before ++ bytes)

-- what a read's failure tells: an interruption is tried again, and every other failure is the refusal of its kind
abbrev pub failure_told : ErrorKind → Result OneRead Stop
failure_told kind.Interrupted = Ok Again
failure_told other = Err (stop_of_kind other)

-- what the answer of one read tells: no bytes are the input's end
abbrev pub told_of : Result ℕ Error → Result OneRead Stop
told_of (Ok count) = if count == 0 then Ok End else Ok (Bytes count)
told_of (Err error) = failure_told (error_kind error)

-- why an input isn't read: want of memory, or the console
abbrev pub IsGivenUp : Stop → Type 0
IsGivenUp stop = (stop ≡ Fault OutOfMemory) ⊎ (stop ≡ Console)
