-- The parameters of AES algorithm identifiers (RFC 3565, 4.1; RFC 5084, 3).
use Rattle.std.specs.Prelude.{ℕ, List}
use Rattle.x509_keys_parts.specs.declared.aes.AesMode.{AesMode}
use Rattle.x509_keys_parts.specs.declared.aes.AesMode.TheVariants.{Ecb, Cbc, Ofb, Cfb, Wrap, Gcm, Ccm, WrapPad}
use Rattle.x509_keys_parts.specs.declared.aes.AesParameters.{AesParameters}
use Rattle.x509_keys_parts.specs.declared.aes.AesParameters.TheVariants.{Null, InitializationVector, AuthenticatedEncryptionParameters}
use Rattle.x509_der.specs.Types.{Choice}
use Rattle.x509_der.specs.Types.choice.{First, Second}
use Rattle.x509_der.specs.Shape.{Shape}
use Rattle.x509_der.specs.Tagged.{tagged}
use Rattle.x509_der.specs.Choice.{choice}
use Rattle.x509_der.specs.PrimitiveContent.{nothing, octets}
use Rattle.x509_der.specs.Structure.{structure}
use Rattle.x509_keys_parts.specs.AesAuthEncParams.{AuthEncParams, auth_enc}

-- the place of a mode among the identifiers of one key size, which ascend from it
abbrev pub mode_number : AesMode → ℕ
mode_number Ecb = 1
mode_number Cbc = 2
mode_number Ofb = 3
mode_number Cfb = 4
mode_number Wrap = 5
mode_number Gcm = 6
mode_number Ccm = 7
mode_number WrapPad = 8

-- the alternatives, in the order of the variants
abbrev pub Fields : Type 0
Fields = Choice (Unit {0}) (Choice (List ℕ) AuthEncParams)

abbrev pub aes_parts : {A : Type 0} → AesParameters A → Fields
aes_parts Null = First tt
aes_parts (InitializationVector v) = Second (First v)
aes_parts (AuthenticatedEncryptionParameters v) = Second (Second v)

-- CHOICE { NULL, AES-IV OCTET STRING, CCMParameters } (RFC 3565, 4.1; RFC 5084, 3.1 and 3.2)
abbrev pub aes_base : Shape Fields
aes_base = choice (tagged 5 nothing) (choice (tagged 4 octets) auth_enc)

abbrev pub aes_parameters : {A : Type 0} → Shape (AesParameters A)
aes_parameters = structure aes_parts aes_base
