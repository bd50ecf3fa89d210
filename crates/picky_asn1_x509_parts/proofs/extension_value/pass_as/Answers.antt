use Rattle.std.proofs.Common.{refl}
use Rattle.x509_der.specs.reads.Passing.{variant_passed}
use Rattle.picky_asn1_x509_parts.specs.Extensions.{authority_key, constraints, crl_number, generic, names, purposes, subject_key, usage, value_bytes, IsValue}
use Rattle.picky_asn1_x509_parts.specs.declared.extension_value.ExtensionValue.TheVariants as value
use Rattle.picky_asn1_x509_parts.proofs.extension_value.pass_as.Goals as goal

pub returns-in-AuthorityKeyIdentifier : goal.returns-in-AuthorityKeyIdentifier
returns-in-AuthorityKeyIdentifier g c = rw c.in-AuthorityKeyIdentifier.is (variant_passed value.AuthorityKeyIdentifier value_bytes IsValue authority_key (λ v. tt) (λ v. tt) c.args.reader.now c.pass_only.new.reader c.pass_only.result (λ u. refl) c.pass_only.ensures)

pub returns-in-SubjectKeyIdentifier : goal.returns-in-SubjectKeyIdentifier
returns-in-SubjectKeyIdentifier g c = rw c.in-SubjectKeyIdentifier.is (variant_passed value.SubjectKeyIdentifier value_bytes IsValue subject_key (λ v. tt) (λ v. tt) c.args.reader.now c.pass_only-in-SubjectKeyIdentifier.new.reader c.pass_only-in-SubjectKeyIdentifier.result (λ u. refl) c.pass_only-in-SubjectKeyIdentifier.ensures)

pub returns-in-KeyUsage : goal.returns-in-KeyUsage
returns-in-KeyUsage g c = rw c.in-KeyUsage.is (variant_passed value.KeyUsage value_bytes IsValue usage (λ v. tt) (λ v. tt) c.args.reader.now c.pass_only-in-KeyUsage.new.reader c.pass_only-in-KeyUsage.result (λ u. refl) c.pass_only-in-KeyUsage.ensures)

pub returns-in-SubjectAltName : goal.returns-in-SubjectAltName
returns-in-SubjectAltName g c = rw c.in-SubjectAltName.is (variant_passed value.SubjectAltName value_bytes IsValue names (λ v. tt) (λ v. tt) c.args.reader.now c.pass_only-in-SubjectAltName.new.reader c.pass_only-in-SubjectAltName.result (λ u. refl) c.pass_only-in-SubjectAltName.ensures)

pub returns-in-IssuerAltName : goal.returns-in-IssuerAltName
returns-in-IssuerAltName g c = rw c.in-IssuerAltName.is (variant_passed value.IssuerAltName value_bytes IsValue names (λ v. tt) (λ v. tt) c.args.reader.now c.pass_only-in-IssuerAltName.new.reader c.pass_only-in-IssuerAltName.result (λ u. refl) c.pass_only-in-IssuerAltName.ensures)

pub returns-in-BasicConstraints : goal.returns-in-BasicConstraints
returns-in-BasicConstraints g c = rw c.in-BasicConstraints.is (variant_passed value.BasicConstraints value_bytes IsValue constraints (λ v. tt) (λ v. tt) c.args.reader.now c.pass_only-in-BasicConstraints.new.reader c.pass_only-in-BasicConstraints.result (λ u. refl) c.pass_only-in-BasicConstraints.ensures)

pub returns-in-ExtendedKeyUsage : goal.returns-in-ExtendedKeyUsage
returns-in-ExtendedKeyUsage g c = rw c.in-ExtendedKeyUsage.is (variant_passed value.ExtendedKeyUsage value_bytes IsValue purposes (λ v. tt) (λ v. tt) c.args.reader.now c.pass_only-in-ExtendedKeyUsage.new.reader c.pass_only-in-ExtendedKeyUsage.result (λ u. refl) c.pass_only-in-ExtendedKeyUsage.ensures)

pub returns-in-Generic : goal.returns-in-Generic
returns-in-Generic g c = rw c.in-Generic.is (variant_passed value.Generic value_bytes IsValue generic (λ v. tt) (λ v. tt) c.args.reader.now c.pass_only-in-Generic.new.reader c.pass_only-in-Generic.result (λ u. refl) c.pass_only-in-Generic.ensures)

pub returns-in-CrlNumber : goal.returns-in-CrlNumber
returns-in-CrlNumber g c = rw c.in-CrlNumber.is (variant_passed value.CrlNumber value_bytes IsValue crl_number (λ v. tt) (λ v. tt) c.args.reader.now c.pass_only-in-CrlNumber.new.reader c.pass_only-in-CrlNumber.result (λ u. refl) c.pass_only-in-CrlNumber.ensures)
