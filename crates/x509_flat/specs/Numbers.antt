-- The numbers of types and statuses.
use Rattle.std.specs.Prelude.{ℕ}
use Rattle.x509_flat.specs.declared.kind.Kind.{Kind}
use Rattle.x509_flat.specs.declared.status.Status.{Status}
use Rattle.x509_flat.specs.declared.kind.Kind.TheVariants as kind
use Rattle.x509_flat.specs.declared.status.Status.TheVariants as answer

abbrev pub kind_number : Kind → ℕ
kind_number kind.Certificate = 1
kind_number kind.Request = 2
kind_number kind.PrivateKey = 3
kind_number kind.PublicKey = 4
kind_number kind.RsaPrivateKey = 5
kind_number kind.RsaPublicKey = 6
kind_number kind.EcPrivateKey = 7
kind_number kind.Name = 8
kind_number kind.Extensions = 9
kind_number kind.Algorithm = 10
kind_number kind.RawAlgorithm = 11
kind_number kind.RequestInfo = 12
kind_number kind.TbsCertificate = 13
kind_number kind.CertificateOutline = 14
kind_number kind.RequestOutline = 15
kind_number kind.PrivateKeyOutline = 16
kind_number kind.PublicKeyOutline = 17
kind_number kind.Crl = 18

abbrev pub status_number : Status → ℕ
status_number answer.Done = 0
status_number answer.Refused = 1
status_number answer.OutOfMemory = 2
status_number answer.TooShort = 3
status_number answer.UnknownKind = 4
status_number answer.TooLong = 5
