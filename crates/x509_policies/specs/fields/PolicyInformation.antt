-- Where the fields of PolicyInformation stand in an encoding, written by tools/structures.py from declarations.asn1.
use Rattle.std.proofs.Common.{◌≡◌, ℕ, ◌+◌, List, ◌++◌, length}
use Rattle.x509_der.specs.Element.{element, header}
use Rattle.x509_der.specs.Tally.{Tally}
use Rattle.x509_der.specs.Fields.{Stands}
use Rattle.x509_der.specs.Optional.{OptionalAt}
use Rattle.x509_der.specs.Items.{items}
use Rattle.x509_der.specs.ObjectIdentifier.{oids}
use Rattle.x509_der.specs.Tagged.{tagged}
use Rattle.x509_policies.specs.PolicyQualifierInfo.{policy_qualifier_info}
use Rattle.x509_policies.specs.declared.structures.policy_information.PolicyInformation.{PolicyInformation}

pub record PolicyInformationAt {A : Type 0} (v : PolicyInformation A) (string : List ℕ) (y : Tally) : Type 0 where
  pub content : List ℕ
  pub bytes : string ≡ element 48 content
  pub policy_identifier_bytes : List ℕ
  pub policy_qualifiers_bytes : List ℕ
  pub policy_identifier_first : content ≡ policy_identifier_bytes ++ policy_qualifiers_bytes
  pub policy_identifier_at : Stands (tagged 6 oids) v.policy_identifier (header content) policy_identifier_bytes string y
  pub policy_qualifiers_at : OptionalAt (tagged 48 (items policy_qualifier_info)) v.policy_qualifiers (header content + length policy_identifier_bytes) policy_qualifiers_bytes string y
