-- What the program answers where it gives no output.
use Rattle.std.specs.Prelude.{ℕ, List, codes}
use Rattle.hex.specs.declared.error.FromHexError.{FromHexError}
use Rattle.picky_asn1_x509.specs.Types.{ReadError, WriteError}
use Rattle.x509_tool_parts.specs.declared.fault.ToolFault.{ToolFault}
use Rattle.x509_tool_parts.specs.declared.fault.ToolFault.TheVariants.{Refused, Usage, OutOfMemory, TooLong}
use Rattle.hex.specs.declared.error.FromHexError.TheVariants as hex_error
use Rattle.picky_asn1_x509.specs.Types.read_error
use Rattle.picky_asn1_x509.specs.Types.write_error

abbrev pub status_of : ToolFault → ℕ
status_of Refused = 1
status_of Usage = 2
status_of OutOfMemory = 3
status_of TooLong = 4

abbrev pub line_of : ToolFault → List ℕ
line_of Refused = codes "refused"
line_of Usage = codes "usage: x509_tool TYPE"
line_of OutOfMemory = codes "out of memory"
line_of TooLong = codes "too long"

-- a refused read is refused, unless for memory
abbrev pub fault_of_read : ReadError → ToolFault
fault_of_read read_error.OutOfMemory = OutOfMemory
fault_of_read _ = Refused

abbrev pub fault_of_write : WriteError → ToolFault
fault_of_write write_error.OutOfMemory = OutOfMemory
fault_of_write write_error.TooLong = TooLong

-- a text that is no hexadecimal is a wrong use, unless memory was refused
abbrev pub fault_of_hex : FromHexError → ToolFault
fault_of_hex hex_error.OutOfMemory = OutOfMemory
fault_of_hex _ = Usage
