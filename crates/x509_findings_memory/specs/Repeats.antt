-- Extensions that stand twice (RFC 5280, 4.2).
use Rattle.std.specs.Prelude.{◌≡◌, ◌<◌, ℕ, List, length, slice_index_or}
use Rattle.picky_asn1_x509_parts.specs.Extensions.{ExtensionFields}

-- two of the extensions have one identifier: a certificate has at most one instance of each
pub record Repeats {A : Type 0} (extensions : List (ExtensionFields A)) : Type 0 where
  pub first : ℕ
  pub second : ℕ
  pub order : first < second
  pub within : second < length extensions
  pub same : (d : ExtensionFields A) → (slice_index_or extensions first d).extn_id ≡ (slice_index_or extensions second d).extn_id
