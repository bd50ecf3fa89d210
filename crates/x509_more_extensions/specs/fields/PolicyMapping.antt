-- Where the fields of PolicyMapping stand in an encoding, written by tools/structures.py from declarations.asn1.
use Rattle.std.proofs.Common.{◌≡◌, ℕ, ◌+◌, List, ◌++◌, length}
use Rattle.x509_der.specs.Element.{element, header}
use Rattle.x509_der.specs.Tally.{Tally}
use Rattle.x509_der.specs.Fields.{Stands}
use Rattle.x509_der.specs.ObjectIdentifier.{oids}
use Rattle.x509_der.specs.Tagged.{tagged}
use Rattle.x509_more_extensions.specs.declared.structures.policy_mapping.PolicyMapping.{PolicyMapping}

pub record PolicyMappingAt {A : Type 0} (v : PolicyMapping A) (string : List ℕ) (y : Tally) : Type 0 where
  pub content : List ℕ
  pub bytes : string ≡ element 48 content
  pub issuer_domain_policy_bytes : List ℕ
  pub subject_domain_policy_bytes : List ℕ
  pub issuer_domain_policy_first : content ≡ issuer_domain_policy_bytes ++ subject_domain_policy_bytes
  pub issuer_domain_policy_at : Stands (tagged 6 oids) v.issuer_domain_policy (header content) issuer_domain_policy_bytes string y
  pub subject_domain_policy_at : Stands (tagged 6 oids) v.subject_domain_policy (header content + length issuer_domain_policy_bytes) subject_domain_policy_bytes string y
