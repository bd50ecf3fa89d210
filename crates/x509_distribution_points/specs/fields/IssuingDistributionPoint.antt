-- Where the fields of IssuingDistributionPoint stand in an encoding, written by tools/structures.py from declarations.asn1.
use Rattle.std.proofs.Common.{◌≡◌, ℕ, ◌+◌, List, ◌++◌, length}
use Rattle.x509_der.specs.Element.{element, header}
use Rattle.x509_der.specs.Tally.{Tally}
use Rattle.x509_der.specs.Optional.{OptionalAt}
use Rattle.x509_der.specs.BitString.{bit_strings}
use Rattle.x509_der.specs.Boolean.{booleans}
use Rattle.x509_der.specs.Tagged.{tagged}
use Rattle.x509_distribution_points.specs.DistributionPointName.{distribution_point_name}
use Rattle.x509_distribution_points.specs.declared.structures.issuing_distribution_point.IssuingDistributionPoint.{IssuingDistributionPoint}

pub record IssuingDistributionPointAt {A : Type 0} (v : IssuingDistributionPoint A) (string : List ℕ) (y : Tally) : Type 0 where
  pub content : List ℕ
  pub bytes : string ≡ element 48 content
  pub distribution_point_bytes : List ℕ
  pub behind_distribution_point : List ℕ
  pub distribution_point_first : content ≡ distribution_point_bytes ++ behind_distribution_point
  pub distribution_point_at : OptionalAt (tagged 160 distribution_point_name) v.distribution_point (header content) distribution_point_bytes string y
  pub only_contains_user_certs_bytes : List ℕ
  pub behind_only_contains_user_certs : List ℕ
  pub only_contains_user_certs_first : behind_distribution_point ≡ only_contains_user_certs_bytes ++ behind_only_contains_user_certs
  pub only_contains_user_certs_at : OptionalAt (tagged 129 booleans) v.only_contains_user_certs (header content + length distribution_point_bytes) only_contains_user_certs_bytes string y
  pub only_contains_ca_certs_bytes : List ℕ
  pub behind_only_contains_ca_certs : List ℕ
  pub only_contains_ca_certs_first : behind_only_contains_user_certs ≡ only_contains_ca_certs_bytes ++ behind_only_contains_ca_certs
  pub only_contains_ca_certs_at : OptionalAt (tagged 130 booleans) v.only_contains_ca_certs ((header content + length distribution_point_bytes) + length only_contains_user_certs_bytes) only_contains_ca_certs_bytes string y
  pub only_some_reasons_bytes : List ℕ
  pub behind_only_some_reasons : List ℕ
  pub only_some_reasons_first : behind_only_contains_ca_certs ≡ only_some_reasons_bytes ++ behind_only_some_reasons
  pub only_some_reasons_at : OptionalAt (tagged 131 bit_strings) v.only_some_reasons (((header content + length distribution_point_bytes) + length only_contains_user_certs_bytes) + length only_contains_ca_certs_bytes) only_some_reasons_bytes string y
  pub indirect_crl_bytes : List ℕ
  pub only_contains_attribute_certs_bytes : List ℕ
  pub indirect_crl_first : behind_only_some_reasons ≡ indirect_crl_bytes ++ only_contains_attribute_certs_bytes
  pub indirect_crl_at : OptionalAt (tagged 132 booleans) v.indirect_crl ((((header content + length distribution_point_bytes) + length only_contains_user_certs_bytes) + length only_contains_ca_certs_bytes) + length only_some_reasons_bytes) indirect_crl_bytes string y
  pub only_contains_attribute_certs_at : OptionalAt (tagged 133 booleans) v.only_contains_attribute_certs (((((header content + length distribution_point_bytes) + length only_contains_user_certs_bytes) + length only_contains_ca_certs_bytes) + length only_some_reasons_bytes) + length indirect_crl_bytes) only_contains_attribute_certs_bytes string y
