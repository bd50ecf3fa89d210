-- Public keys of any algorithm (RFC 5280, 4.1.2.7).
use Rattle.std.proofs.Common.{◌≡◌, ℕ, ◌+◌, Bool, List, ◌++◌, length}
use Rattle.x509_der.specs.BitString.{bit_strings}
use Rattle.x509_der.specs.Element.{element, header}
use Rattle.x509_der.specs.Fields.{Stands}
use Rattle.x509_der.specs.Join.{join}
use Rattle.x509_der.specs.Shape.{Shape}
use Rattle.x509_der.specs.Structure.{structure}
use Rattle.x509_der.specs.Tagged.{tagged}
use Rattle.x509_der.specs.Tally.{Tally}
use Rattle.x509_outline_parts.specs.Algorithms.{algorithm}
use Rattle.x509_outline_parts.specs.declared.algorithm_outline.AlgorithmOutline.{AlgorithmOutline}
use Rattle.x509_outline_parts.specs.declared.public_key_outline.PublicKeyOutline.{PublicKeyOutline}

-- the algorithm, and the bits of the key
abbrev pub Fields : Type 0 → Type 0
Fields A = AlgorithmOutline A × List Bool

abbrev pub key_parts : {A : Type 0} → PublicKeyOutline A → Fields A
key_parts v = (v.algorithm, v.subject_public_key)

-- algorithm AlgorithmIdentifier, subjectPublicKey BIT STRING
abbrev pub key_inner : {A : Type 0} → Shape (Fields A)
key_inner = join (λ j. j.0) (λ j. j.1) algorithm (tagged 3 bit_strings)

-- SubjectPublicKeyInfo ::= SEQUENCE { algorithm AlgorithmIdentifier, subjectPublicKey BIT STRING } (RFC 5280, 4.1.2.7)
abbrev pub key_base : {A : Type 0} → Shape (Fields A)
key_base = tagged 48 key_inner

abbrev pub public_key : {A : Type 0} → Shape (PublicKeyOutline A)
public_key = structure key_parts key_base

-- the algorithm right behind the header, and behind it the bits
pub record PublicKeyAt {A : Type 0} (v : PublicKeyOutline A) (string : List ℕ) (y : Tally) : Type 0 where
  pub content : List ℕ
  pub bytes : string ≡ element 48 content
  pub algorithms : List ℕ
  pub keys : List ℕ
  pub fields : content ≡ algorithms ++ keys
  pub algorithm_at : Stands algorithm v.algorithm (header content) algorithms string y
  pub key_at : Stands (tagged 3 bit_strings) v.subject_public_key (header content + length algorithms) keys string y
