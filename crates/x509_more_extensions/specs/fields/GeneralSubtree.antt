-- Where the fields of GeneralSubtree stand in an encoding, written by tools/structures.py from declarations.asn1.
use Rattle.std.proofs.Common.{◌≡◌, ℕ, ◌+◌, List, ◌++◌, length}
use Rattle.x509_der.specs.Element.{element, header}
use Rattle.x509_der.specs.Tally.{Tally}
use Rattle.x509_der.specs.Fields.{Stands}
use Rattle.x509_der.specs.Optional.{OptionalAt}
use Rattle.x509_der.specs.Integer.{integers}
use Rattle.x509_der.specs.Tagged.{tagged}
use Rattle.x509_names.specs.GeneralNames.{general_name}
use Rattle.x509_more_extensions.specs.declared.structures.general_subtree.GeneralSubtree.{GeneralSubtree}

pub record GeneralSubtreeAt {A : Type 0} (v : GeneralSubtree A) (string : List ℕ) (y : Tally) : Type 0 where
  pub content : List ℕ
  pub bytes : string ≡ element 48 content
  pub base_bytes : List ℕ
  pub behind_base : List ℕ
  pub base_first : content ≡ base_bytes ++ behind_base
  pub base_at : Stands general_name v.base (header content) base_bytes string y
  pub minimum_bytes : List ℕ
  pub maximum_bytes : List ℕ
  pub minimum_first : behind_base ≡ minimum_bytes ++ maximum_bytes
  pub minimum_at : OptionalAt (tagged 128 integers) v.minimum (header content + length base_bytes) minimum_bytes string y
  pub maximum_at : OptionalAt (tagged 129 integers) v.maximum ((header content + length base_bytes) + length minimum_bytes) maximum_bytes string y
