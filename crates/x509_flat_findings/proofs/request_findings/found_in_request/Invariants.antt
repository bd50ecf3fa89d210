use Rattle.std.proofs.Common.{◌≡◌, ◌≤◌, length, take}
use Rattle.x509_findings.specs.RequestFindings.{BrokenByRequest}
use Rattle.x509_flat_findings.specs.Findings.{AreTold}
use Rattle.x509_flat_findings.specs.RequestFindings.{flat_request_finding}
use Rattle.x509_flat_findings.proofs.request_findings.found_in_request.Given as goal

-- the findings by the rules so far stand in front
abbrev pub invariant-rules : goal.invariant-rules
invariant-rules g l = record {
  few : l.count ≤ l.index;
  size : length l.row ≡ length l.initial.row;
  found : AreTold (λ r. BrokenByRequest r l.request) (λ r. flat_request_finding r l.places) (take l.index l.rules) (take l.count l.row);
}
