use Rattle.x509_report_parts.proofs.Lasts.{SoFar}
use Rattle.x509_report_parts.proofs.cursor.Cursor.last.Given as goal

abbrev pub invariant-loop : goal.invariant-loop
invariant-loop l = SoFar l.self l.cursor l.tag l.found l.counter
