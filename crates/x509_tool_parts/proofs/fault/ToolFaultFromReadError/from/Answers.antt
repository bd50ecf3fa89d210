use Rattle.std.proofs.Common.{rules}
use Rattle.x509_tool_parts.proofs.fault.ToolFaultFromReadError.from.Goals as goal

pub returns-in_default : goal.returns-in_default
returns-in_default c = search (rules)
