-- Where the fields of AccessDescription stand in an encoding, written by tools/structures.py from declarations.asn1.
use Rattle.std.proofs.Common.{◌≡◌, ℕ, ◌+◌, List, ◌++◌, length}
use Rattle.x509_der.specs.Element.{element, header}
use Rattle.x509_der.specs.Tally.{Tally}
use Rattle.x509_der.specs.Fields.{Stands}
use Rattle.x509_der.specs.ObjectIdentifier.{oids}
use Rattle.x509_der.specs.Tagged.{tagged}
use Rattle.x509_names.specs.GeneralNames.{general_name}
use Rattle.x509_more_extensions.specs.declared.structures.access_description.AccessDescription.{AccessDescription}

pub record AccessDescriptionAt {A : Type 0} (v : AccessDescription A) (string : List ℕ) (y : Tally) : Type 0 where
  pub content : List ℕ
  pub bytes : string ≡ element 48 content
  pub access_method_bytes : List ℕ
  pub access_location_bytes : List ℕ
  pub access_method_first : content ≡ access_method_bytes ++ access_location_bytes
  pub access_method_at : Stands (tagged 6 oids) v.access_method (header content) access_method_bytes string y
  pub access_location_at : Stands general_name v.access_location (header content + length access_method_bytes) access_location_bytes string y
