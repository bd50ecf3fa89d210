use Rattle.std.proofs.Common.{length}
use Rattle.x509_report_parts.proofs.values.is_whole_utf16.Given as goal

abbrev pub decreases-loop-rest : goal.decreases-loop-rest
decreases-loop-rest l = length l.rest
