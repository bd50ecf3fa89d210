-- What is told of a key usage (RFC 5280, 4.2.1.3).
use Rattle.std.specs.Prelude.{◌≡◌, Bool, false, List, ℕ, [], slice_index_or}
use Rattle.x509_der.specs.Calls.{IsWhole}
use Rattle.x509_der.specs.Tally.{Tally}
use Rattle.picky_asn1_x509.specs.KeyUsages.{key_usage}
use Rattle.x509_flat.specs.Statuses.{OnlyReads}
use Rattle.x509_flat.specs.declared.usage.FlatUsage.{FlatUsage}
use Rattle.x509_flat.specs.declared.status.Status.{Status}
use Rattle.x509_flat.specs.declared.status.Status.TheVariants as answer

-- digitalSignature (0), nonRepudiation (1), keyEncipherment (2), dataEncipherment (3), keyAgreement (4), keyCertSign (5), cRLSign (6), encipherOnly (7), decipherOnly (8)
abbrev pub flat_usage : List Bool → FlatUsage
flat_usage v = record {
  digital_signature = slice_index_or v 0 false;
  content_commitment = slice_index_or v 1 false;
  key_encipherment = slice_index_or v 2 false;
  data_encipherment = slice_index_or v 3 false;
  key_agreement = slice_index_or v 4 false;
  key_cert_sign = slice_index_or v 5 false;
  crl_sign = slice_index_or v 6 false;
  encipher_only = slice_index_or v 7 false;
  decipher_only = slice_index_or v 8 false;
}

abbrev pub no_usage : FlatUsage
no_usage = flat_usage []

-- the usage that the octets encode
pub record Uses (octets : List ℕ) (fields : FlatUsage) : Type 0 where
  pub value : List Bool
  pub tally : Tally
  pub whole : IsWhole key_usage octets value tally
  pub is : fields ≡ flat_usage value

-- what a status says of telling it; memory is never refused
pub record UsageTold (octets : List ℕ) (status : Status) (fields : FlatUsage) : Type 0 where
  pub done : status ≡ answer.Done → Uses octets fields
  pub refused : status ≡ answer.Refused → (fields ≡ no_usage) × ((v : List Bool) (y : Tally) → key_usage.spelled v octets y → ⊥)
  pub memory : status ≡ answer.OutOfMemory → ⊥
  pub others : OnlyReads status
