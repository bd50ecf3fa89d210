use Rattle.std.proofs.Common.{refl}
use Rattle.std.proofs.lemmas.Result.{err_from_is_err_and}
use Rattle.x509_der.specs.laws.Variant.{variant_accepts, variant_refuses}
use Rattle.picky_asn1_x509_parts.specs.Extensions.{authority_key, subject_key, usage, names, constraints, purposes, generic, crl_number, value_bytes, IsValue}
use Rattle.picky_asn1_x509_parts.specs.declared.extension_value.ExtensionValue.TheVariants as value
use Rattle.picky_asn1_x509_parts.proofs.extension_value.read_as.Goals as goal

pub returns-in_ok-read-in-AuthorityKeyIdentifier : goal.returns-in_ok-read-in-AuthorityKeyIdentifier
returns-in_ok-read-in-AuthorityKeyIdentifier g c = rw c.in-AuthorityKeyIdentifier.is (variant_accepts value.AuthorityKeyIdentifier value_bytes IsValue authority_key c.args.reader.now c.read.new.reader _ _ refl c.in_ok-read-in-AuthorityKeyIdentifier.ensures)

pub returns-in_err-read-in-AuthorityKeyIdentifier : goal.returns-in_err-read-in-AuthorityKeyIdentifier
returns-in_err-read-in-AuthorityKeyIdentifier g c =
    let p = err_from_is_err_and c.from_residual.result c.from_residual.ensures.1 in
    rw (p.1, p.2, c.in-AuthorityKeyIdentifier.is) (variant_refuses value.AuthorityKeyIdentifier value_bytes IsValue authority_key c.args.reader.now c.read.new.reader _ c.in_err-read-in-AuthorityKeyIdentifier.ensures)

pub returns-in_ok-read-in-SubjectKeyIdentifier : goal.returns-in_ok-read-in-SubjectKeyIdentifier
returns-in_ok-read-in-SubjectKeyIdentifier g c = rw c.in-SubjectKeyIdentifier.is (variant_accepts value.SubjectKeyIdentifier value_bytes IsValue subject_key c.args.reader.now c.read-in-SubjectKeyIdentifier.new.reader _ _ refl c.in_ok-read-in-SubjectKeyIdentifier.ensures)

pub returns-in_err-read-in-SubjectKeyIdentifier : goal.returns-in_err-read-in-SubjectKeyIdentifier
returns-in_err-read-in-SubjectKeyIdentifier g c =
    let p = err_from_is_err_and c.from_residual-in_err-read-in-SubjectKeyIdentifier.result c.from_residual-in_err-read-in-SubjectKeyIdentifier.ensures.1 in
    rw (p.1, p.2, c.in-SubjectKeyIdentifier.is) (variant_refuses value.SubjectKeyIdentifier value_bytes IsValue subject_key c.args.reader.now c.read-in-SubjectKeyIdentifier.new.reader _ c.in_err-read-in-SubjectKeyIdentifier.ensures)

pub returns-in_ok-read-in-KeyUsage : goal.returns-in_ok-read-in-KeyUsage
returns-in_ok-read-in-KeyUsage g c = rw c.in-KeyUsage.is (variant_accepts value.KeyUsage value_bytes IsValue usage c.args.reader.now c.read-in-KeyUsage.new.reader _ _ refl c.in_ok-read-in-KeyUsage.ensures)

pub returns-in_err-read-in-KeyUsage : goal.returns-in_err-read-in-KeyUsage
returns-in_err-read-in-KeyUsage g c =
    let p = err_from_is_err_and c.from_residual-in_err-read-in-KeyUsage.result c.from_residual-in_err-read-in-KeyUsage.ensures.1 in
    rw (p.1, p.2, c.in-KeyUsage.is) (variant_refuses value.KeyUsage value_bytes IsValue usage c.args.reader.now c.read-in-KeyUsage.new.reader _ c.in_err-read-in-KeyUsage.ensures)

pub returns-in_ok-read-in-SubjectAltName : goal.returns-in_ok-read-in-SubjectAltName
returns-in_ok-read-in-SubjectAltName g c = rw c.in-SubjectAltName.is (variant_accepts value.SubjectAltName value_bytes IsValue names c.args.reader.now c.read-in-SubjectAltName.new.reader _ _ refl c.in_ok-read-in-SubjectAltName.ensures)

pub returns-in_err-read-in-SubjectAltName : goal.returns-in_err-read-in-SubjectAltName
returns-in_err-read-in-SubjectAltName g c =
    let p = err_from_is_err_and c.from_residual-in_err-read-in-SubjectAltName.result c.from_residual-in_err-read-in-SubjectAltName.ensures.1 in
    rw (p.1, p.2, c.in-SubjectAltName.is) (variant_refuses value.SubjectAltName value_bytes IsValue names c.args.reader.now c.read-in-SubjectAltName.new.reader _ c.in_err-read-in-SubjectAltName.ensures)

pub returns-in_ok-read-in-IssuerAltName : goal.returns-in_ok-read-in-IssuerAltName
returns-in_ok-read-in-IssuerAltName g c = rw c.in-IssuerAltName.is (variant_accepts value.IssuerAltName value_bytes IsValue names c.args.reader.now c.read-in-IssuerAltName.new.reader _ _ refl c.in_ok-read-in-IssuerAltName.ensures)

pub returns-in_err-read-in-IssuerAltName : goal.returns-in_err-read-in-IssuerAltName
returns-in_err-read-in-IssuerAltName g c =
    let p = err_from_is_err_and c.from_residual-in_err-read-in-IssuerAltName.result c.from_residual-in_err-read-in-IssuerAltName.ensures.1 in
    rw (p.1, p.2, c.in-IssuerAltName.is) (variant_refuses value.IssuerAltName value_bytes IsValue names c.args.reader.now c.read-in-IssuerAltName.new.reader _ c.in_err-read-in-IssuerAltName.ensures)

pub returns-in_ok-read-in-BasicConstraints : goal.returns-in_ok-read-in-BasicConstraints
returns-in_ok-read-in-BasicConstraints g c = rw c.in-BasicConstraints.is (variant_accepts value.BasicConstraints value_bytes IsValue constraints c.args.reader.now c.read-in-BasicConstraints.new.reader _ _ refl c.in_ok-read-in-BasicConstraints.ensures)

pub returns-in_err-read-in-BasicConstraints : goal.returns-in_err-read-in-BasicConstraints
returns-in_err-read-in-BasicConstraints g c =
    let p = err_from_is_err_and c.from_residual-in_err-read-in-BasicConstraints.result c.from_residual-in_err-read-in-BasicConstraints.ensures.1 in
    rw (p.1, p.2, c.in-BasicConstraints.is) (variant_refuses value.BasicConstraints value_bytes IsValue constraints c.args.reader.now c.read-in-BasicConstraints.new.reader _ c.in_err-read-in-BasicConstraints.ensures)

pub returns-in_ok-read-in-ExtendedKeyUsage : goal.returns-in_ok-read-in-ExtendedKeyUsage
returns-in_ok-read-in-ExtendedKeyUsage g c = rw c.in-ExtendedKeyUsage.is (variant_accepts value.ExtendedKeyUsage value_bytes IsValue purposes c.args.reader.now c.read-in-ExtendedKeyUsage.new.reader _ _ refl c.in_ok-read-in-ExtendedKeyUsage.ensures)

pub returns-in_err-read-in-ExtendedKeyUsage : goal.returns-in_err-read-in-ExtendedKeyUsage
returns-in_err-read-in-ExtendedKeyUsage g c =
    let p = err_from_is_err_and c.from_residual-in_err-read-in-ExtendedKeyUsage.result c.from_residual-in_err-read-in-ExtendedKeyUsage.ensures.1 in
    rw (p.1, p.2, c.in-ExtendedKeyUsage.is) (variant_refuses value.ExtendedKeyUsage value_bytes IsValue purposes c.args.reader.now c.read-in-ExtendedKeyUsage.new.reader _ c.in_err-read-in-ExtendedKeyUsage.ensures)

pub returns-in_ok-read-in-Generic : goal.returns-in_ok-read-in-Generic
returns-in_ok-read-in-Generic g c = rw c.in-Generic.is (variant_accepts value.Generic value_bytes IsValue generic c.args.reader.now c.read-in-Generic.new.reader _ _ refl c.in_ok-read-in-Generic.ensures)

pub returns-in_err-read-in-Generic : goal.returns-in_err-read-in-Generic
returns-in_err-read-in-Generic g c =
    let p = err_from_is_err_and c.from_residual-in_err-read-in-Generic.result c.from_residual-in_err-read-in-Generic.ensures.1 in
    rw (p.1, p.2, c.in-Generic.is) (variant_refuses value.Generic value_bytes IsValue generic c.args.reader.now c.read-in-Generic.new.reader _ c.in_err-read-in-Generic.ensures)

pub returns-in_ok-read-in-CrlNumber : goal.returns-in_ok-read-in-CrlNumber
returns-in_ok-read-in-CrlNumber g c = rw c.in-CrlNumber.is (variant_accepts value.CrlNumber value_bytes IsValue crl_number c.args.reader.now c.read-in-CrlNumber.new.reader _ _ refl c.in_ok-read-in-CrlNumber.ensures)

pub returns-in_err-read-in-CrlNumber : goal.returns-in_err-read-in-CrlNumber
returns-in_err-read-in-CrlNumber g c =
    let p = err_from_is_err_and c.from_residual-in_err-read-in-CrlNumber.result c.from_residual-in_err-read-in-CrlNumber.ensures.1 in
    rw (p.1, p.2, c.in-CrlNumber.is) (variant_refuses value.CrlNumber value_bytes IsValue crl_number c.args.reader.now c.read-in-CrlNumber.new.reader _ c.in_err-read-in-CrlNumber.ensures)
