-- The times between which a certificate is valid (RFC 5280, 4.1.2.5).
use Rattle.std.proofs.Common.{◌≡◌, ℕ, ◌+◌, List, ◌++◌, length}
use Rattle.x509_names_parts.specs.declared.validity.Validity.{Validity}
use Rattle.x509_names_parts.specs.declared.time.Time.{Time}
use Rattle.x509_der.specs.Element.{element, header}
use Rattle.x509_der.specs.Tally.{Tally}
use Rattle.x509_der.specs.Shape.{Shape}
use Rattle.x509_der.specs.Tagged.{tagged}
use Rattle.x509_der.specs.Join.{join}
use Rattle.x509_der.specs.Structure.{structure}
use Rattle.x509_der.specs.Fields.{Stands}
use Rattle.x509_names_parts.specs.Time.{time}

abbrev pub validity_parts : Validity → Time × Time
validity_parts v = (v.not_before, v.not_after)

-- notBefore Time, notAfter Time
abbrev pub validity_inner : Shape (Time × Time)
validity_inner = join (λ j. j.0) (λ j. j.1) time time

-- Validity ::= SEQUENCE { notBefore Time, notAfter Time }
abbrev pub validity_base : Shape (Time × Time)
validity_base = tagged 48 validity_inner

abbrev pub validity : Shape Validity
validity = structure validity_parts validity_base

-- the times one behind the other in the SEQUENCE, each in the form that was taken
pub record TimesAt (v : Validity) (string : List ℕ) (y : Tally) : Type 0 where
  pub content : List ℕ
  pub bytes : string ≡ element 48 content
  pub before : List ℕ
  pub after : List ℕ
  pub times : content ≡ before ++ after
  pub before_at : Stands time v.not_before (header content) before string y
  pub after_at : Stands time v.not_after (header content + length before) after string y
