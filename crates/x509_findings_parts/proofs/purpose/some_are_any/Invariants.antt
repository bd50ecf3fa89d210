use Rattle.std.proofs.Common.{◌≡◌, drop}
use Rattle.std.specs.List.{list_any}
use Rattle.x509_der.specs.ObjectIdentifier.{is_arcs}
use Rattle.picky_asn1_x509_parts.specs.Extensions.{any_usage_arcs}
use Rattle.x509_findings_parts.proofs.purpose.some_are_any.Given as goal

-- one of what is left passes where one of all does
abbrev pub invariant-loop-purpose : goal.invariant-loop-purpose
invariant-loop-purpose g l = list_any (λ purpose. is_arcs purpose any_usage_arcs) (drop l.purpose-index l.purposes) ≡ list_any (λ purpose. is_arcs purpose any_usage_arcs) l.purposes
