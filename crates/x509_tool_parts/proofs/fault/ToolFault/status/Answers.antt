use Rattle.std.proofs.Common.{rules}
use Rattle.x509_tool_parts.proofs.fault.ToolFault.status.Goals as goal

pub returns-in-Usage : goal.returns-in-Usage
returns-in-Usage c = search (rules)
