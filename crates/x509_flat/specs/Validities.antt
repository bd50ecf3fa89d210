-- When a certificate is valid, as it is told.
use Rattle.std.specs.Prelude.{◌≡◌, ℕ, List, pos}
use Rattle.x509_der.specs.Calls.{IsWhole}
use Rattle.x509_der.specs.Tally.{Tally}
use Rattle.x509_prim.specs.Calendar.{moment}
use Rattle.x509_names.specs.Types.{Time}
use Rattle.picky_asn1_x509.specs.Certificates.{certificate}
use Rattle.picky_asn1_x509.specs.declared.certificate.Certificate.{Certificate}
use Rattle.x509_values.specs.Times.{moment_in}
use Rattle.x509_values.specs.UnixTimes.{unix_seconds}
use Rattle.x509_flat.specs.Statuses.{OnlyReads}
use Rattle.x509_flat.specs.declared.status.Status.{Status}
use Rattle.x509_flat.specs.declared.status.Status.TheVariants as answer
use Rattle.x509_flat.specs.declared.validity.FlatTime.{FlatTime}

-- the six numbers of a time, and its seconds since 1970
pub record IsTime (t : Time) (at : FlatTime) : Type 0 where
  pub numbers : moment at.year at.month at.day at.hour at.minute at.second ≡ moment_in t
  pub seconds : at.unix_time ≡ unix_seconds (moment_in t)

-- all zeros
abbrev pub no_time : FlatTime
no_time = record { unix_time = pos 0; year = 0; month = 0; day = 0; hour = 0; minute = 0; second = 0 }

-- the times of the certificate that the bytes encode
pub record ValidBetween (A : Type 0) (bytes : List ℕ) (not_before not_after : FlatTime) : Type 0 where
  pub value : Certificate A
  pub tally : Tally
  pub whole : IsWhole (certificate {A = A}) bytes value tally
  pub first : IsTime value.tbs_certificate.validity.not_before not_before
  pub last : IsTime value.tbs_certificate.validity.not_after not_after

-- what a status says of telling when a certificate is valid; memory is never refused
pub record ValidityTold (A : Type 0) (bytes : List ℕ) (status : Status) (not_before not_after : FlatTime) : Type 0 where
  pub done : status ≡ answer.Done → ValidBetween A bytes not_before not_after
  pub refused : status ≡ answer.Refused → (not_before ≡ no_time) × (not_after ≡ no_time) × ((v : Certificate A) (y : Tally) → certificate.spelled v bytes y → ⊥)
  pub memory : status ≡ answer.OutOfMemory → ⊥
  pub others : OnlyReads status
