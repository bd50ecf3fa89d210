-- Where the parts of AES parameters stand in a spelling.
use Rattle.std.specs.Prelude.{◌≡◌, ℕ, ◌+◌, length, List, ◌++◌}
use Rattle.x509_der.specs.Element.{element, header}
use Rattle.x509_der.specs.Tally.{Tally}
use Rattle.x509_der.specs.Tagged.{tagged}
use Rattle.x509_der.specs.Fields.{FieldAt, Stands}
use Rattle.x509_der.specs.Integer.{integers}
use Rattle.x509_der.specs.PrimitiveContent.{nothing, octets}
use Rattle.x509_keys_parts.specs.AesAuthEncParams.{AuthEncParams, auth_enc}
use Rattle.x509_keys_parts.specs.declared.aes.AesParameters.{AesParameters}
use Rattle.x509_keys_parts.specs.declared.aes.AesParameters.TheVariants.{Null, InitializationVector, AuthenticatedEncryptionParameters}

-- the nonce right behind the header, and the length of the integrity check value behind it
pub record AuthEncAt (v : AuthEncParams) (string : List ℕ) (y : Tally) : Type 0 where
  pub content : List ℕ
  pub bytes : string ≡ element 48 content
  pub nonces : List ℕ
  pub lengths : List ℕ
  pub fields : content ≡ nonces ++ lengths
  pub nonce_at : FieldAt (tagged 4 octets) v.nonce (header content) nonces string y
  pub icv_len_at : FieldAt (tagged 2 integers) v.icv_len (header content + length nonces) lengths string y

-- the alternative that was taken is the whole
abbrev pub AesAt : {A : Type 0} → AesParameters A → List ℕ → Tally → Type 0
AesAt Null string y = FieldAt (tagged 5 nothing) (tt {0}) 0 string string y
AesAt (InitializationVector v) string y = FieldAt (tagged 4 octets) v 0 string string y
AesAt (AuthenticatedEncryptionParameters v) string y = Stands auth_enc v 0 string string y
