-- Where the fields of NameConstraints stand in an encoding, written by tools/structures.py from declarations.asn1.
use Rattle.std.proofs.Common.{◌≡◌, ℕ, ◌+◌, List, ◌++◌, length}
use Rattle.x509_der.specs.Element.{element, header}
use Rattle.x509_der.specs.Tally.{Tally}
use Rattle.x509_der.specs.Optional.{OptionalAt}
use Rattle.x509_der.specs.Items.{items}
use Rattle.x509_der.specs.Tagged.{tagged}
use Rattle.x509_more_extensions.specs.GeneralSubtree.{general_subtree}
use Rattle.x509_more_extensions.specs.declared.structures.name_constraints.NameConstraints.{NameConstraints}

pub record NameConstraintsAt {A : Type 0} (v : NameConstraints A) (string : List ℕ) (y : Tally) : Type 0 where
  pub content : List ℕ
  pub bytes : string ≡ element 48 content
  pub permitted_subtrees_bytes : List ℕ
  pub excluded_subtrees_bytes : List ℕ
  pub permitted_subtrees_first : content ≡ permitted_subtrees_bytes ++ excluded_subtrees_bytes
  pub permitted_subtrees_at : OptionalAt (tagged 160 (items general_subtree)) v.permitted_subtrees (header content) permitted_subtrees_bytes string y
  pub excluded_subtrees_at : OptionalAt (tagged 161 (items general_subtree)) v.excluded_subtrees (header content + length permitted_subtrees_bytes) excluded_subtrees_bytes string y
