-- For which hosts a certificate is: by its alternative names alone (RFC 9525, 6).
use Rattle.std.specs.Prelude.{◌≡◌, ◌↔◌, Bool, false, true, IsTrue, ℕ, List, [], ◌∷◌, ◌++◌, Option, Some, None}
use Rattle.x509_der.specs.Element.{element, is_tag}
use Rattle.x509_fields.specs.Slices.{Covers}
use Rattle.x509_fields.specs.declared.span.Span.{Span}
use Rattle.x509_hosts.specs.Hosts.{HostTold, IsFor}
use Rattle.x509_hosts.specs.declared.host.Host.{Host}
use Rattle.x509_values.specs.Certificates.{ExtensionCarried}

-- the content of id-ce-subjectAltName, 2.5.29.17 (RFC 5280, 4.2.1.6)
abbrev pub alternative_names : List ℕ
alternative_names = 85 ∷ 29 ∷ 17 ∷ []

-- the bytes are these elements, given by their tags and contents, and a rest behind them
abbrev pub BeginsWith : List (ℕ × List ℕ) → List ℕ → List ℕ → Type 0
BeginsWith [] rest bytes = bytes ≡ rest
BeginsWith (e ∷ more) rest bytes = (is_tag e.0 ≡ true) × (behind : List ℕ) × (bytes ≡ element e.0 e.1 ++ behind) × BeginsWith more rest behind

-- elements stand one behind another, and one of them is a name for the host
pub record NamesHost (host : Host) (bytes : List ℕ) : Type 0 where
  pub before : List (ℕ × List ℕ)
  pub tag : ℕ
  pub content : List ℕ
  pub behind : List ℕ
  pub parts : BeginsWith before (element tag content ++ behind) bytes
  pub own : IsFor host tag content

-- GeneralNames ::= SEQUENCE OF GeneralName (RFC 5280, 4.2.1.6), of which one is for the host
pub record ListNamesHost (host : Host) (bytes : List ℕ) : Type 0 where
  pub content : List ℕ
  pub list : bytes ≡ element 48 content
  pub names : NamesHost host content

abbrev pub HostWithin : List ℕ → Span → Host → Bool → Type 0
HostWithin string span host r = (slice : List ℕ) → Covers string span.start span.end slice → IsTrue r ↔ ListNamesHost host slice

-- the list in a span, for the host that a text writes; a text that writes none is no one's host
abbrev pub HostIn : List ℕ → Span → Option Host → Bool → Type 0
HostIn string span (Some host) r = HostWithin string span host r
HostIn string span None r = r ≡ false

-- without alternative names, a certificate is for no host
abbrev pub HostAt : List ℕ → List ℕ → Option Span → Bool → Type 0
HostAt text string (Some span) r = (host : Option Host) × HostTold text host × HostIn string span host r
HostAt text string None r = r ≡ false

-- of the certificate that the bytes encode
pub record HostCarried (A : Type 0) (text bytes : List ℕ) (r : Bool) : Type 0 where
  pub at : Option Span
  pub names : ExtensionCarried A alternative_names bytes at
  pub is : HostAt text bytes at r
