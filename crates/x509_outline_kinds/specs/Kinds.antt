-- The names of the types, the labels of their PEM blocks, and what is signed.
use Rattle.std.specs.Prelude.{ℕ, List, codes}
use Rattle.x509_outline_kinds.specs.declared.kind.OutlineKind.{OutlineKind}
use Rattle.x509_outline_kinds.specs.declared.kind.OutlineKind.TheVariants as kind

-- as reports have it
abbrev pub outline_name : OutlineKind → List ℕ
outline_name kind.Certificate = codes "certificate-outline"
outline_name kind.Request = codes "request-outline"
outline_name kind.PrivateKey = codes "private-key-outline"
outline_name kind.PublicKey = codes "public-key-outline"
outline_name kind.RevocationList = codes "crl"

-- RFC 7468, 5, 6, 7, 10 and 13
abbrev pub label_of : OutlineKind → List ℕ
label_of kind.Certificate = codes "CERTIFICATE"
label_of kind.Request = codes "CERTIFICATE REQUEST"
label_of kind.PrivateKey = codes "PRIVATE KEY"
label_of kind.PublicKey = codes "PUBLIC KEY"
label_of kind.RevocationList = codes "X509 CRL"

-- RFC 5280, 4.1.1.3 and 5.1.1.3; RFC 2986, 4.2
abbrev pub IsSigned : OutlineKind → Type 0
IsSigned kind.PrivateKey = ⊥
IsSigned kind.PublicKey = ⊥
IsSigned _ = Unit {0}
