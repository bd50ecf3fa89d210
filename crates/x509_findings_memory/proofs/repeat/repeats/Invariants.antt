use Rattle.x509_findings_memory.proofs.Seen.{SoFar}
use Rattle.x509_findings_memory.proofs.repeat.repeats.Given as goal

-- so far the identifiers are different, and they are what was seen
abbrev pub invariant-loop-extension : goal.invariant-loop-extension
invariant-loop-extension g l = SoFar l.extensions l.extension-index l.seen
