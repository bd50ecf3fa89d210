-- Where the fields of DistributionPoint stand in an encoding, written by tools/structures.py from declarations.asn1.
use Rattle.std.proofs.Common.{◌≡◌, ℕ, ◌+◌, List, ◌++◌, length}
use Rattle.x509_der.specs.Element.{element, header}
use Rattle.x509_der.specs.Tally.{Tally}
use Rattle.x509_der.specs.Optional.{OptionalAt}
use Rattle.x509_der.specs.BitString.{bit_strings}
use Rattle.x509_der.specs.Items.{items}
use Rattle.x509_der.specs.Tagged.{tagged}
use Rattle.x509_distribution_points.specs.DistributionPointName.{distribution_point_name}
use Rattle.x509_names.specs.GeneralNames.{general_name}
use Rattle.x509_distribution_points.specs.declared.structures.distribution_point.DistributionPoint.{DistributionPoint}

pub record DistributionPointAt {A : Type 0} (v : DistributionPoint A) (string : List ℕ) (y : Tally) : Type 0 where
  pub content : List ℕ
  pub bytes : string ≡ element 48 content
  pub distribution_point_bytes : List ℕ
  pub behind_distribution_point : List ℕ
  pub distribution_point_first : content ≡ distribution_point_bytes ++ behind_distribution_point
  pub distribution_point_at : OptionalAt (tagged 160 distribution_point_name) v.distribution_point (header content) distribution_point_bytes string y
  pub reasons_bytes : List ℕ
  pub crl_issuer_bytes : List ℕ
  pub reasons_first : behind_distribution_point ≡ reasons_bytes ++ crl_issuer_bytes
  pub reasons_at : OptionalAt (tagged 129 bit_strings) v.reasons (header content + length distribution_point_bytes) reasons_bytes string y
  pub crl_issuer_at : OptionalAt (tagged 162 (items general_name)) v.crl_issuer ((header content + length distribution_point_bytes) + length reasons_bytes) crl_issuer_bytes string y
