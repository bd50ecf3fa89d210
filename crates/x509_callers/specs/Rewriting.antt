-- Why a certificate isn't written again.
use Rattle.std.specs.Prelude.{◌≡◌, ◌↔◌, ℕ, ◌≤◌, ◌^◌, List, length}
use Rattle.picky_asn1_x509.specs.Calls.{IsWhole, NoWhole}
use Rattle.picky_asn1_x509.specs.Certificates.{certificate, certificate_bytes}
use Rattle.picky_asn1_x509.specs.Tally.{Tally}
use Rattle.picky_asn1_x509.specs.Types.write_error.{TooLong}
use Rattle.picky_asn1_x509.specs.declared.certificate.Certificate.{Certificate}
use Rattle.x509_callers.specs.declared.signer.RewriteError.{RewriteError}
use Rattle.x509_callers.specs.declared.signer.RewriteError.TheVariants.{Read, Write}

-- the bytes encode no certificate, or one whose encoding is too long; memory aside
abbrev pub NotRewritten : (A : Type 0) → List ℕ → RewriteError → Type 0
NotRewritten A string (Read e) = NoWhole (certificate {A = A}) string e
NotRewritten A string (Write e) = (v : Certificate A) × (y : Tally) × IsWhole certificate string v y × ((e ≡ TooLong) ↔ (2 ^ 64 ≤ length (certificate_bytes v)))
