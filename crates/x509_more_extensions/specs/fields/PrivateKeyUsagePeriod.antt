-- Where the fields of PrivateKeyUsagePeriod stand in an encoding, written by tools/structures.py from declarations.asn1.
use Rattle.std.proofs.Common.{◌≡◌, ℕ, ◌+◌, List, ◌++◌, length}
use Rattle.x509_der.specs.Element.{element, header}
use Rattle.x509_der.specs.Tally.{Tally}
use Rattle.x509_der.specs.Optional.{OptionalAt}
use Rattle.x509_der.specs.Tagged.{tagged}
use Rattle.x509_prim.specs.Times.{generalized_times}
use Rattle.x509_more_extensions.specs.declared.structures.private_key_usage_period.PrivateKeyUsagePeriod.{PrivateKeyUsagePeriod}

pub record PrivateKeyUsagePeriodAt (v : PrivateKeyUsagePeriod) (string : List ℕ) (y : Tally) : Type 0 where
  pub content : List ℕ
  pub bytes : string ≡ element 48 content
  pub not_before_bytes : List ℕ
  pub not_after_bytes : List ℕ
  pub not_before_first : content ≡ not_before_bytes ++ not_after_bytes
  pub not_before_at : OptionalAt (tagged 128 generalized_times) v.not_before (header content) not_before_bytes string y
  pub not_after_at : OptionalAt (tagged 129 generalized_times) v.not_after (header content + length not_before_bytes) not_after_bytes string y
