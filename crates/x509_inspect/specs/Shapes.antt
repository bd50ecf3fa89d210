-- What values the types have, and the grammar of each.
use Rattle.std.specs.Prelude.{List}
use Rattle.x509_der.specs.Shape.{Shape}
use Rattle.x509_keys.specs.AlgorithmIdentifier.{Algorithm, algorithm_identifier}
use Rattle.x509_keys.specs.EcPrivateKeys.{ec_private_key}
use Rattle.x509_keys.specs.PrivateKeyInfos.{private_key_info}
use Rattle.x509_keys.specs.RawAlgorithm.{RawAlgorithm, raw_algorithm}
use Rattle.x509_keys.specs.RsaPrivateKeys.{rsa_private_key}
use Rattle.x509_keys.specs.RsaPublicKeys.{rsa_public_key}
use Rattle.x509_keys.specs.SubjectPublicKeyInfos.{subject_public_key_info}
use Rattle.x509_keys.specs.declared.ec_private_key.ECPrivateKey.{ECPrivateKey}
use Rattle.x509_keys.specs.declared.private_key_info.PrivateKeyInfo.{PrivateKeyInfo}
use Rattle.x509_keys.specs.declared.rsa_private_key.RsaPrivateKey.{RsaPrivateKey}
use Rattle.x509_keys.specs.declared.rsa_public_key.RsaPublicKey.{RsaPublicKey}
use Rattle.x509_keys.specs.declared.subject_public_key_info.SubjectPublicKeyInfo.{SubjectPublicKeyInfo}
use Rattle.x509_names.specs.Names.{Sets, name}
use Rattle.picky_asn1_x509.specs.Certificates.{certificate}
use Rattle.picky_asn1_x509.specs.ExtensionLists.{extensions}
use Rattle.picky_asn1_x509.specs.Extensions.{ExtensionFields}
use Rattle.picky_asn1_x509.specs.Requests.{request, request_info}
use Rattle.picky_asn1_x509.specs.TbsCertificates.{tbs_certificate}
use Rattle.picky_asn1_x509.specs.declared.certificate.Certificate.{Certificate}
use Rattle.picky_asn1_x509.specs.declared.certification_request.CertificationRequest.{CertificationRequest}
use Rattle.picky_asn1_x509.specs.declared.certification_request.CertificationRequestInfo.{CertificationRequestInfo}
use Rattle.picky_asn1_x509.specs.declared.tbs_certificate.TbsCertificate.{TbsCertificate}
use Rattle.x509_inspect_parts.specs.declared.kind.Kind.{Kind}
use Rattle.x509_inspect_parts.specs.declared.kind.Kind.TheVariants as kind

abbrev pub Value : Type 0 → Kind → Type 0
Value A kind.Certificate = Certificate A
Value A kind.Request = CertificationRequest A
Value A kind.PrivateKey = PrivateKeyInfo A
Value A kind.PublicKey = SubjectPublicKeyInfo A
Value A kind.RsaPrivateKey = RsaPrivateKey A
Value A kind.RsaPublicKey = RsaPublicKey A
Value A kind.EcPrivateKey = ECPrivateKey A
Value A kind.Name = Sets A
Value A kind.Extensions = List (ExtensionFields A)
Value A kind.Algorithm = Algorithm A
Value A kind.RawAlgorithm = RawAlgorithm
Value A kind.RequestInfo = CertificationRequestInfo A
Value A kind.TbsCertificate = TbsCertificate A

abbrev pub shape_of : (A : Type 0) (k : Kind) → Shape (Value A k)
shape_of A kind.Certificate = certificate
shape_of A kind.Request = request
shape_of A kind.PrivateKey = private_key_info
shape_of A kind.PublicKey = subject_public_key_info
shape_of A kind.RsaPrivateKey = rsa_private_key
shape_of A kind.RsaPublicKey = rsa_public_key
shape_of A kind.EcPrivateKey = ec_private_key
shape_of A kind.Name = name
shape_of A kind.Extensions = extensions
shape_of A kind.Algorithm = algorithm_identifier
shape_of A kind.RawAlgorithm = raw_algorithm
shape_of A kind.RequestInfo = request_info
shape_of A kind.TbsCertificate = tbs_certificate
