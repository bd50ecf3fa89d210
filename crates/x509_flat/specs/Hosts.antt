-- What is told of a certificate and a host (RFC 9525, 6).
use Rattle.std.specs.Prelude.{◌≡◌, ℕ, Bool, false, List}
use Rattle.x509_der.specs.Tally.{Tally}
use Rattle.picky_asn1_x509.specs.Certificates.{certificate}
use Rattle.picky_asn1_x509.specs.declared.certificate.Certificate.{Certificate}
use Rattle.x509_values.specs.Hosts.{HostCarried}
use Rattle.x509_flat.specs.Statuses.{OnlyReads}
use Rattle.x509_flat.specs.declared.status.Status.{Status}
use Rattle.x509_flat.specs.declared.status.Status.TheVariants as answer

-- what a status says of whether the certificate is for the host that a text writes; memory is never refused, and where no certificate is read, it is for none
pub record HostMatched (A : Type 0) (text bytes : List ℕ) (status : Status) (matches : Bool) : Type 0 where
  pub done : status ≡ answer.Done → HostCarried A text bytes matches
  pub refused : status ≡ answer.Refused → (matches ≡ false) × ((v : Certificate A) (y : Tally) → (certificate {A = A}).spelled v bytes y → ⊥)
  pub memory : status ≡ answer.OutOfMemory → ⊥
  pub others : OnlyReads status
