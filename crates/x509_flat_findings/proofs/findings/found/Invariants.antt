use Rattle.std.proofs.Common.{◌≡◌, ◌≤◌, length, take}
use Rattle.x509_flat_findings.specs.Findings.{AreFindings}
use Rattle.x509_flat_findings.proofs.findings.found.Given as goal

-- the findings by the rules so far stand in front
abbrev pub invariant-rules : goal.invariant-rules
invariant-rules g l = record {
  few : l.count ≤ l.index;
  size : length l.row ≡ length l.initial.row;
  found : AreFindings l.certificate l.places (take l.index l.rules) (take l.count l.row);
}
