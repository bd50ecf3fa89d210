-- What the program answers.
use Rattle.std.specs.Prelude.{◌≡◌, ◌⊎◌, ℕ, ◌≤◌, ◌^◌, List, [], ◌∷◌, ◌++◌, length, map, codes, Result, Ok, Err}
use Rattle.std.specs.List.{join_with_byte}
use Rattle.std.specs.Fmt.{decimal}
use Rattle.hex.specs.Hex.{encode_lower}
use Rattle.x509_tool_parts.specs.declared.fault.ToolFault.{ToolFault}
use Rattle.x509_tool_parts.specs.declared.fault.ToolFault.TheVariants.{Refused, Usage, OutOfMemory, TooLong}
use Rattle.x509_tool_parts.specs.declared.served.Served.{Served}
use Rattle.x509_tool_parts.specs.declared.served.Served.TheVariants.{Algorithm, Certificate, Extensions, Name, PrivateKey, PublicKey, RawAlgorithm, Request}
use Rattle.picky_asn1_x509.specs.Tally.{Tally, counts_of}
use Rattle.picky_asn1_x509.specs.Shape.{Shape}
use Rattle.picky_asn1_x509.specs.RawAlgorithm.{raw_algorithm}
use Rattle.picky_asn1_x509.specs.AlgorithmIdentifier.{algorithm_identifier}
use Rattle.picky_asn1_x509.specs.PrivateKeyInfos.{private_key_info}
use Rattle.picky_asn1_x509.specs.SubjectPublicKeyInfos.{subject_public_key_info}
use Rattle.picky_asn1_x509.specs.Names.{name}
use Rattle.picky_asn1_x509.specs.Certificates.{certificate}
use Rattle.picky_asn1_x509.specs.ExtensionLists.{extensions}
use Rattle.picky_asn1_x509.specs.Requests.{request}

-- numbers in decimal, joined by single spaces
abbrev pub spaced : List ℕ → List ℕ
spaced counts = join_with_byte 32 (map decimal counts)

-- bytes in lower-case hexadecimal on a line, and counts on a line
abbrev pub report_text : List ℕ → List ℕ → List ℕ
report_text bytes counts = encode_lower bytes ++ (10 ∷ (spaced counts ++ 10 ∷ []))

-- the bytes are spelled with a value; out is the report of its strict spelling and of the ten counts
pub record Reports {V : Type 0} (s : Shape V) (bytes out : List ℕ) : Type 0 where
  pub value : V
  pub tally : Tally
  pub spelled : s.spelled value bytes tally
  pub text : out ≡ report_text (s.strict value) (counts_of tally.marks)

-- the bytes are spelled with a value whose strict spelling is longer than a usize can say
pub record IsTooLong {V : Type 0} (s : Shape V) (bytes : List ℕ) : Type 0 where
  pub value : V
  pub tally : Tally
  pub spelled : s.spelled value bytes tally
  pub long : 2 ^ 64 ≤ length (s.strict value)

-- the answer to bytes: their report; refused exactly where they are spelled with no value; too long; or memory was refused
abbrev pub Answers : {V : Type 0} → Shape V → List ℕ → Result (List ℕ) ToolFault → Type 0
Answers s bytes (Ok out) = Reports s bytes out
Answers s bytes (Err Refused) = (v : _) (y : Tally) → s.spelled v bytes y → ⊥
Answers s bytes (Err Usage) = ⊥
Answers s bytes (Err OutOfMemory) = Unit {0}
Answers s bytes (Err TooLong) = IsTooLong s bytes

-- the names of the types that are served
abbrev pub served_name : Served → List ℕ
served_name Algorithm = codes "algorithm"
served_name Certificate = codes "certificate"
served_name Extensions = codes "extensions"
served_name Name = codes "name"
served_name PrivateKey = codes "private-key"
served_name PublicKey = codes "public-key"
served_name RawAlgorithm = codes "raw-algorithm"
served_name Request = codes "request"

abbrev pub IsServed : List ℕ → Type 0
IsServed type_name = (served : Served) × (type_name ≡ served_name served)

-- the answer to bytes as a value of a type that is served
abbrev pub AnswersAs : (A : Type 0) → Served → List ℕ → Result (List ℕ) ToolFault → Type 0
AnswersAs A Algorithm bytes r = Answers (algorithm_identifier {A = A}) bytes r
AnswersAs A Certificate bytes r = Answers (certificate {A = A}) bytes r
AnswersAs A Extensions bytes r = Answers (extensions {A = A}) bytes r
AnswersAs A Name bytes r = Answers (name {A = A}) bytes r
AnswersAs A PrivateKey bytes r = Answers (private_key_info {A = A}) bytes r
AnswersAs A PublicKey bytes r = Answers (subject_public_key_info {A = A}) bytes r
AnswersAs A RawAlgorithm bytes r = Answers raw_algorithm bytes r
AnswersAs A Request bytes r = Answers (request {A = A}) bytes r

-- the answer to the bytes of the type of a name
abbrev pub AnswersNamed : (A : Type 0) → List ℕ → List ℕ → Result (List ℕ) ToolFault → Type 0
AnswersNamed A type_name bytes r = (served : Served) × (type_name ≡ served_name served) × AnswersAs A served bytes r

-- the answer to a text that is no hexadecimal text
abbrev pub IsUsageOrMemory : Result (List ℕ) ToolFault → Type 0
IsUsageOrMemory r = (r ≡ Err Usage) ⊎ (r ≡ Err OutOfMemory)

-- the list in a vector, in an answer
abbrev pub listed_answer : {L E : Type 0} → (L → List ℕ) → Result L E → Result (List ℕ) E
listed_answer of (Ok v) = Ok (of v)
listed_answer of (Err e) = Err e
