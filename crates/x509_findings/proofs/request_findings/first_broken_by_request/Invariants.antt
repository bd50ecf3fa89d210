use Rattle.std.proofs.Common.{take}
use Rattle.x509_findings.specs.RequestFindings.{NoneBrokenByRequest}
use Rattle.x509_findings.proofs.request_findings.first_broken_by_request.Given as goal

-- the request keeps the rules that were asked
abbrev pub invariant-loop-index : goal.invariant-loop-index
invariant-loop-index g l = NoneBrokenByRequest l.request (take l.index l.rules)
