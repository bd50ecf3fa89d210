use Rattle.std.proofs.Common.{rules}
use Rattle.x509_tool_parts.proofs.console.StopFromToolFault.from.Goals as goal

pub returns : goal.returns
returns c = search (rules)
