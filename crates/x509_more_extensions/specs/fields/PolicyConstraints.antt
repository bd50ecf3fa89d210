-- Where the fields of PolicyConstraints stand in an encoding, written by tools/structures.py from declarations.asn1.
use Rattle.std.proofs.Common.{◌≡◌, ℕ, ◌+◌, List, ◌++◌, length}
use Rattle.x509_der.specs.Element.{element, header}
use Rattle.x509_der.specs.Tally.{Tally}
use Rattle.x509_der.specs.Optional.{OptionalAt}
use Rattle.x509_der.specs.Integer.{integers}
use Rattle.x509_der.specs.Tagged.{tagged}
use Rattle.x509_more_extensions.specs.declared.structures.policy_constraints.PolicyConstraints.{PolicyConstraints}

pub record PolicyConstraintsAt {A : Type 0} (v : PolicyConstraints A) (string : List ℕ) (y : Tally) : Type 0 where
  pub content : List ℕ
  pub bytes : string ≡ element 48 content
  pub require_explicit_policy_bytes : List ℕ
  pub inhibit_policy_mapping_bytes : List ℕ
  pub require_explicit_policy_first : content ≡ require_explicit_policy_bytes ++ inhibit_policy_mapping_bytes
  pub require_explicit_policy_at : OptionalAt (tagged 128 integers) v.require_explicit_policy (header content) require_explicit_policy_bytes string y
  pub inhibit_policy_mapping_at : OptionalAt (tagged 129 integers) v.inhibit_policy_mapping (header content + length require_explicit_policy_bytes) inhibit_policy_mapping_bytes string y
