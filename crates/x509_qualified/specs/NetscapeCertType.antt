-- What a certificate is for, as Netscape named it before there were key usages: a list of named bits.
use Rattle.std.specs.Prelude.{ℕ, Bool, List}
use Rattle.x509_der.specs.BitString.{bit_strings}
use Rattle.x509_der.specs.Shape.{Shape}
use Rattle.x509_der.specs.Tagged.{tagged}
use Rattle.x509_qualified.specs.declared.cert_type.CertUse.{CertUse}
use Rattle.x509_qualified.specs.declared.cert_type.CertUse.TheVariants as cert_use

-- BIT STRING, its list of bits with any length
abbrev pub netscape_cert_type : Shape (List Bool)
netscape_cert_type = tagged 3 bit_strings

-- ssl-client (0), ssl-server (1), smime (2), object-signing (3), reserved (4), ssl-CA (5), smime-CA (6), object-signing-CA (7)
abbrev pub bit_of : CertUse → ℕ
bit_of cert_use.SslClient = 0
bit_of cert_use.SslServer = 1
bit_of cert_use.Smime = 2
bit_of cert_use.ObjectSigning = 3
bit_of cert_use.SslCa = 5
bit_of cert_use.SmimeCa = 6
bit_of cert_use.ObjectSigningCa = 7
