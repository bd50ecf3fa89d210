use Rattle.std.proofs.Common.{length}
use Rattle.x509_report_parts.proofs.values.Utf16Display.fmt.Given as goal

abbrev pub decreases-loop-rest : goal.decreases-loop-rest
decreases-loop-rest g l = length l.rest
