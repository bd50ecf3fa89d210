use Rattle.x509_der.specs.Choice.{choice}
use Rattle.x509_der.specs.Tagged.{tagged}
use Rattle.x509_der.specs.PrimitiveContent.{nothing, octets}
use Rattle.x509_der.specs.facts.FieldPlaces.{stands_parts, stands_first, stands_second}
use Rattle.x509_der.specs.Types.choice.{First, Second}
use Rattle.x509_keys_parts.specs.AesAuthEncParams.{auth_enc}
use Rattle.x509_keys_parts.specs.AesParameters.{aes_parts, aes_base}
use Rattle.x509_keys_parts.specs.declared.aes.AesParameters.TheVariants.{Null, InitializationVector, AuthenticatedEncryptionParameters}
use Rattle.x509_keys_parts.proofs.laws.aes_parameters_fields.Goals as goal

pub returns : goal.returns
returns g c Null string y a =
    (stands_first (tagged 5 nothing) (choice (tagged 4 octets) auth_enc) tt 0 string string y (stands_parts aes_parts aes_base Null 0 string string y (c.fields.ensures Null string y a))).field
returns g c (InitializationVector v) string y a =
    let s = stands_second (tagged 5 nothing) (choice (tagged 4 octets) auth_enc) (First v) 0 string string y (stands_parts aes_parts aes_base (InitializationVector v) 0 string string y (c.fields.ensures (InitializationVector v) string y a)) in
    (stands_first (tagged 4 octets) auth_enc v 0 string string y s).field
returns g c (AuthenticatedEncryptionParameters v) string y a =
    let s = stands_second (tagged 5 nothing) (choice (tagged 4 octets) auth_enc) (Second v) 0 string string y (stands_parts aes_parts aes_base (AuthenticatedEncryptionParameters v) 0 string string y (c.fields.ensures (AuthenticatedEncryptionParameters v) string y a)) in
    stands_second (tagged 4 octets) auth_enc v 0 string string y s
