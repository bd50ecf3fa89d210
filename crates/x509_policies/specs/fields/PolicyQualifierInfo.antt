-- Where the fields of PolicyQualifierInfo stand in an encoding, written by tools/structures.py from declarations.asn1.
use Rattle.std.proofs.Common.{◌≡◌, ℕ, ◌+◌, List, ◌++◌, length}
use Rattle.x509_der.specs.Element.{element, header}
use Rattle.x509_der.specs.Tally.{Tally}
use Rattle.x509_der.specs.Fields.{Stands}
use Rattle.x509_der.specs.ObjectIdentifier.{oids}
use Rattle.x509_der.specs.RawElement.{raws}
use Rattle.x509_der.specs.Tagged.{tagged}
use Rattle.x509_policies.specs.declared.structures.policy_qualifier_info.PolicyQualifierInfo.{PolicyQualifierInfo}

pub record PolicyQualifierInfoAt {A : Type 0} (v : PolicyQualifierInfo A) (string : List ℕ) (y : Tally) : Type 0 where
  pub content : List ℕ
  pub bytes : string ≡ element 48 content
  pub policy_qualifier_id_bytes : List ℕ
  pub qualifier_bytes : List ℕ
  pub policy_qualifier_id_first : content ≡ policy_qualifier_id_bytes ++ qualifier_bytes
  pub policy_qualifier_id_at : Stands (tagged 6 oids) v.policy_qualifier_id (header content) policy_qualifier_id_bytes string y
  pub qualifier_at : Stands raws v.qualifier (header content + length policy_qualifier_id_bytes) qualifier_bytes string y
