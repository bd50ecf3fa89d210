-- One step from finding to finding.
use Rattle.std.proofs.Common.{◌≡◌, ℕ, suc, ◌+◌, List, take, drop, slice_index_or, ap, ◌∙◌}
use Rattle.std.proofs.Math.Numerals.{add-one}
use Rattle.std.proofs.Math.Seq.{split_at}
use Rattle.picky_asn1_x509.specs.declared.certificate.Certificate.{Certificate}
use Rattle.picky_asn1_x509.specs.declared.certification_request.CertificationRequest.{CertificationRequest}
use Rattle.x509_fields.specs.declared.certificate.CertificateFields.{CertificateFields}
use Rattle.x509_fields.specs.declared.request.CertificationRequestFields.{CertificationRequestFields}
use Rattle.x509_fields.specs.declared.span.Span.{Span}
use Rattle.x509_rules.specs.Rules.{part_of}
use Rattle.x509_rules.specs.declared.rule.Rule.{Rule}
use Rattle.x509_findings.specs.Broken.{Breaks}
use Rattle.x509_findings.specs.Findings.{Found}
use Rattle.x509_findings.specs.Places.{place_in_request, place_of}
use Rattle.x509_findings.specs.RequestFindings.{BreaksByRequest, FoundInRequest}

-- the first rule that is broken is found, and the rules behind it are left
pub found : {A : Type 0} (c : Certificate A) (p : CertificateFields) (rules : List Rule) (i : ℕ) (d : Rule) (rest : List Rule) (at : Span) → Breaks c rules i → rest ≡ drop (i + 1) rules → at ≡ place_of (part_of (slice_index_or rules i d)) p → Found (record { certificate = c; places = p; rules = rules }) (record { certificate = c; places = p; rules = rest }) (record { rule = slice_index_or rules i d; at = at })
found c p rules i d rest at b e q = record {
  kept = take i rules;
  left = drop (suc i) rules;
  rules = split_at rules i d b.within;
  new_is = ap (λ r. record { certificate = c; places = p; rules = r }) (e ∙ ap (λ n. drop n rules) (add-one i));
  are_kept = b.kept;
  broken = b.broken d;
  at = q;
}

-- the same of a request
pub found_in_request : {A : Type 0} (v : CertificationRequest A) (p : CertificationRequestFields) (rules : List Rule) (i : ℕ) (d : Rule) (rest : List Rule) (at : Span) → BreaksByRequest v rules i → rest ≡ drop (i + 1) rules → at ≡ place_in_request (part_of (slice_index_or rules i d)) p → FoundInRequest (record { request = v; places = p; rules = rules }) (record { request = v; places = p; rules = rest }) (record { rule = slice_index_or rules i d; at = at })
found_in_request v p rules i d rest at b e q = record {
  kept = take i rules;
  left = drop (suc i) rules;
  rules = split_at rules i d b.within;
  new_is = ap (λ r. record { request = v; places = p; rules = r }) (e ∙ ap (λ n. drop n rules) (add-one i));
  are_kept = b.kept;
  broken = b.broken d;
  at = q;
}
