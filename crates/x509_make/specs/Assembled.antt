-- Signed structures that are put together of their three parts (RFC 5280, 4.1.1; RFC 2986, 4.2).
use Rattle.std.specs.Prelude.{◌≡◌, ◌≤◌, ◌^◌, ℕ, IsTrue, List, [], ◌∷◌, ◌++◌, length, map}
use Rattle.x509_der.specs.Calls.{NoWhole, NoValue}
use Rattle.x509_der.specs.Element.{element, header}
use Rattle.x509_der.specs.FirstField.{in_sequence}
use Rattle.x509_der.specs.Shape.{Shape}
use Rattle.x509_der.specs.Tally.{Tally, moved}
use Rattle.x509_der.specs.Types.{ReadError}
use Rattle.x509_keys.specs.AlgorithmIdentifier.{Algorithm, algorithm_identifier}
use Rattle.picky_asn1_x509.specs.Certificates.{SignatureFields, signature_fields}
use Rattle.x509_make.specs.Signatures.{is_ecdsa, ecdsa_signatures, IsEcdsaSignature}
use Rattle.x509_make.specs.declared.assemble.NotAssembled.{NotAssembled}
use Rattle.x509_make.specs.declared.assemble.NotAssembled.TheVariants as error

-- SEQUENCE { the part, the algorithm, BIT STRING }: the first two byte for byte, and the signature's bytes, of whose last no bit is unused (X.690, 8.6.2)
abbrev pub assembled : (part algorithm signature : List ℕ) → List ℕ
assembled part algorithm signature = element 48 (part ++ (algorithm ++ element 3 (0 ∷ signature)))

-- the algorithm is in DER, and the signature in the form that the algorithm has
pub record IsSignedBy (A : Type 0) (algorithm signature : List ℕ) : Type 0 where
  pub value : Algorithm A
  pub tally : Tally
  pub spelled : algorithm_identifier.spelled value algorithm tally
  pub clean : tally.marks ≡ []
  pub form : IsTrue (is_ecdsa value.algorithm) → IsEcdsaSignature signature

-- the bytes are put together of the three; the part is spelled with a value of its type
pub record IsAssembled (A : Type 0) {V : Type 0} (s : Shape V) (part algorithm signature bytes : List ℕ) : Type 0 where
  pub is : bytes ≡ assembled part algorithm signature
  pub value : V
  pub tally : Tally
  pub spelled : s.spelled value part tally
  pub signed : IsSignedBy A algorithm signature

-- the algorithm is ECDSA, and the signature isn't in its form
pub record NotInForm (A : Type 0) (algorithm signature : List ℕ) (e : ReadError) : Type 0 where
  pub value : Algorithm A
  pub tally : Tally
  pub spelled : algorithm_identifier.spelled value algorithm tally
  pub ecdsa : IsTrue (is_ecdsa value.algorithm)
  pub none : NoValue ecdsa_signatures signature e

-- the algorithm is read, with a deviation
pub record Deviates (A : Type 0) (algorithm : List ℕ) : Type 0 where
  pub value : Algorithm A
  pub tally : Tally
  pub spelled : algorithm_identifier.spelled value algorithm tally
  pub marks : tally.marks ≡ [] → ⊥

-- why the algorithm and the signature don't go together
abbrev pub WhyNotSigned : (A : Type 0) → (algorithm signature : List ℕ) → NotAssembled → Type 0
WhyNotSigned A algorithm signature (error.Algorithm r) = NoWhole (algorithm_identifier {A = A}) algorithm r.error
WhyNotSigned A algorithm signature error.AlgorithmDeviates = Deviates A algorithm
WhyNotSigned A algorithm signature (error.Signature r) = NotInForm A algorithm signature r.error
WhyNotSigned A algorithm signature _ = ⊥

-- why nothing is put together
abbrev pub WhyNot : (A : Type 0) {V : Type 0} → Shape V → (part algorithm signature : List ℕ) → NotAssembled → Type 0
WhyNot A s part algorithm signature (error.Part r) = NoValue s part r.error
WhyNot A s part algorithm signature error.TooLong = 2 ^ 64 ≤ length (assembled part algorithm signature)
WhyNot A s part algorithm signature error.OutOfMemory = Unit {0}
WhyNot A s part algorithm signature e = WhyNotSigned A algorithm signature e

-- the bytes are read as a value whose signed part is this one, byte for byte, and no deviation stands outside of it
pub record IsSignedPart {A T V : Type 0} (view : T → V × SignatureFields A) (s : Shape V) (part bytes : List ℕ) : Type 0 where
  pub value : T
  pub tally : Tally
  pub spelled : (in_sequence view s signature_fields).spelled value bytes tally
  pub behind : List ℕ
  pub is : bytes ≡ element 48 (part ++ behind)
  pub inner : Tally
  pub fore : s.spelled (view value).0 part inner
  pub marks : tally.marks ≡ map (moved (header (part ++ behind))) inner.marks
