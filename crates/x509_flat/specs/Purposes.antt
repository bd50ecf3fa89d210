-- What is told of the purposes of an extended key usage (RFC 5280, 4.2.1.12).
use Rattle.std.specs.Prelude.{ℕ, List}
use Rattle.x509_der.specs.Calls.{IsWhole}
use Rattle.x509_der.specs.Tally.{Tally}
use Rattle.picky_asn1_x509.specs.ExtendedKeyUsage.{extended_key_usage}
use Rattle.x509_fields.specs.declared.span.Span.{Span}
use Rattle.x509_values.specs.Purposes.{PurposesTold}
use Rattle.x509_values.specs.Told.{Fills}
use Rattle.x509_flat.specs.Values.{FrontFilled}
use Rattle.x509_flat.specs.declared.status.Status.{Status}

-- the purposes that the octets encode, which stand from their first byte on
pub record PurposesCarried (octets : List ℕ) (old new : List Span) (count : ℕ) : Type 0 where
  pub value : List (List ℕ)
  pub tally : Tally
  pub whole : IsWhole extended_key_usage octets value tally
  pub told : Fills (PurposesTold value 0 octets octets tally) old new count

abbrev pub PurposesFill : List ℕ → List Span → List Span → Status → ℕ → Type 0
PurposesFill octets old new status count = FrontFilled extended_key_usage octets (PurposesCarried octets old new) old new status count
