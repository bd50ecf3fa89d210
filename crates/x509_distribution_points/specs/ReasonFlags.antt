-- Why certificates are revoked, as a list of named bits (RFC 5280, 4.2.1.13).
use Rattle.std.specs.Prelude.{ℕ, Bool, List}
use Rattle.x509_der.specs.BitString.{bit_strings}
use Rattle.x509_der.specs.Shape.{Shape}
use Rattle.x509_der.specs.Tagged.{tagged}
use Rattle.x509_distribution_points.specs.declared.reason_flags.Reason.{Reason}
use Rattle.x509_distribution_points.specs.declared.reason_flags.Reason.TheVariants as reason

-- ReasonFlags ::= BIT STRING (RFC 5280, 4.2.1.13), its list of bits with any length
abbrev pub reason_flags : Shape (List Bool)
reason_flags = tagged 3 bit_strings

-- unused (0), keyCompromise (1), cACompromise (2), affiliationChanged (3), superseded (4), cessationOfOperation (5),
-- certificateHold (6), privilegeWithdrawn (7), aACompromise (8)
abbrev pub bit_of : Reason → ℕ
bit_of reason.KeyCompromise = 1
bit_of reason.CaCompromise = 2
bit_of reason.AffiliationChanged = 3
bit_of reason.Superseded = 4
bit_of reason.CessationOfOperation = 5
bit_of reason.CertificateHold = 6
bit_of reason.PrivilegeWithdrawn = 7
bit_of reason.AaCompromise = 8
