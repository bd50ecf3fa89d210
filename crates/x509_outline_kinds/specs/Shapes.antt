-- What values the types have, and the grammar of each.
use Rattle.x509_der.specs.Shape.{Shape}
use Rattle.x509_list_outlines.specs.CertificateLists.{certificate_list}
use Rattle.x509_list_outlines.specs.declared.certificate_list_outline.CertificateListOutline.{CertificateListOutline}
use Rattle.x509_more_outlines.specs.PrivateKeys.{private_key}
use Rattle.x509_more_outlines.specs.Requests.{request}
use Rattle.x509_more_outlines.specs.declared.private_key_outline.PrivateKeyOutline.{PrivateKeyOutline}
use Rattle.x509_more_outlines.specs.declared.request_outline.RequestOutline.{RequestOutline}
use Rattle.x509_outline.specs.Certificates.{certificate}
use Rattle.x509_outline.specs.declared.certificate_outline.CertificateOutline.{CertificateOutline}
use Rattle.x509_outline_parts.specs.PublicKeys.{public_key}
use Rattle.x509_outline_parts.specs.declared.public_key_outline.PublicKeyOutline.{PublicKeyOutline}
use Rattle.x509_outline_kinds.specs.declared.kind.OutlineKind.{OutlineKind}
use Rattle.x509_outline_kinds.specs.declared.kind.OutlineKind.TheVariants as kind

abbrev pub Value : Type 0 → OutlineKind → Type 0
Value A kind.Certificate = CertificateOutline A
Value A kind.Request = RequestOutline A
Value A kind.PrivateKey = PrivateKeyOutline A
Value A kind.PublicKey = PublicKeyOutline A
Value A kind.RevocationList = CertificateListOutline A

abbrev pub shape_of : (A : Type 0) (k : OutlineKind) → Shape (Value A k)
shape_of A kind.Certificate = certificate
shape_of A kind.Request = request
shape_of A kind.PrivateKey = private_key
shape_of A kind.PublicKey = public_key
shape_of A kind.RevocationList = certificate_list
