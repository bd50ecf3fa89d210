-- The names of the types, and the labels of their PEM blocks.
use Rattle.std.specs.Prelude.{◌≡◌, ◌⊎◌, ℕ, List, Option, Some, None, codes}
use Rattle.x509_inspect_parts.specs.declared.kind.Kind.{Kind}
use Rattle.x509_inspect_parts.specs.declared.kind.Kind.TheVariants.{Certificate, Request, PrivateKey, PublicKey, RsaPrivateKey, RsaPublicKey, EcPrivateKey, Name, Extensions, Algorithm, RawAlgorithm, RequestInfo, TbsCertificate}

-- as the option --type takes them
abbrev pub kind_name : Kind → List ℕ
kind_name Certificate = codes "certificate"
kind_name Request = codes "request"
kind_name PrivateKey = codes "private-key"
kind_name PublicKey = codes "public-key"
kind_name RsaPrivateKey = codes "rsa-private-key"
kind_name RsaPublicKey = codes "rsa-public-key"
kind_name EcPrivateKey = codes "ec-private-key"
kind_name Name = codes "name"
kind_name Extensions = codes "extensions"
kind_name Algorithm = codes "algorithm"
kind_name RawAlgorithm = codes "raw-algorithm"
kind_name RequestInfo = codes "request-info"
kind_name TbsCertificate = codes "tbs-certificate"

-- the label of a block that is written (RFC 7468, 5, 7, 10 and 13; the labels of RSA and EC keys are OpenSSL's)
abbrev pub label_of : Kind → Option (List ℕ)
label_of Certificate = Some (codes "CERTIFICATE")
label_of Request = Some (codes "CERTIFICATE REQUEST")
label_of PrivateKey = Some (codes "PRIVATE KEY")
label_of PublicKey = Some (codes "PUBLIC KEY")
label_of RsaPrivateKey = Some (codes "RSA PRIVATE KEY")
label_of RsaPublicKey = Some (codes "RSA PUBLIC KEY")
label_of EcPrivateKey = Some (codes "EC PRIVATE KEY")
label_of Name = None
label_of Extensions = None
label_of Algorithm = None
label_of RawAlgorithm = None
label_of RequestInfo = None
label_of TbsCertificate = None

-- a label that is met too (RFC 7468, 5.1 and 7)
abbrev pub other_label_of : Kind → Option (List ℕ)
other_label_of Certificate = Some (codes "X509 CERTIFICATE")
other_label_of Request = Some (codes "NEW CERTIFICATE REQUEST")
other_label_of _ = None

-- a block with the label holds the type
abbrev pub IsLabelled : Kind → List ℕ → Type 0
IsLabelled kind label = (label_of kind ≡ Some label) ⊎ (other_label_of kind ≡ Some label)
