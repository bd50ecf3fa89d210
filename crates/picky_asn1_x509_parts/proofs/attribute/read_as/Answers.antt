use Rattle.std.proofs.Common.{refl}
use Rattle.std.proofs.lemmas.Result.{err_from_is_err_and}
use Rattle.x509_der.specs.RawElement.{raws}
use Rattle.x509_der.specs.laws.Variant.{variant_accepts, variant_refuses}
use Rattle.picky_asn1_x509_parts.specs.Attribute.{requests, content_types, statements, digests, times, value_bytes, IsValue}
use Rattle.picky_asn1_x509_parts.specs.declared.attribute.AttributeValues.TheVariants as value
use Rattle.picky_asn1_x509_parts.proofs.attribute.read_as.Goals as goal

pub returns-in_ok-read-in-Extensions : goal.returns-in_ok-read-in-Extensions
returns-in_ok-read-in-Extensions g c = rw c.in-Extensions.is (variant_accepts value.Extensions value_bytes IsValue requests c.args.reader.now c.read.new.reader _ _ refl c.in_ok-read-in-Extensions.ensures)

pub returns-in_err-read-in-Extensions : goal.returns-in_err-read-in-Extensions
returns-in_err-read-in-Extensions g c =
    let p = err_from_is_err_and c.from_residual.result c.from_residual.ensures.1 in
    rw (p.1, p.2, c.in-Extensions.is) (variant_refuses value.Extensions value_bytes IsValue requests c.args.reader.now c.read.new.reader _ c.in_err-read-in-Extensions.ensures)

pub returns-in_ok-read-in-ContentType : goal.returns-in_ok-read-in-ContentType
returns-in_ok-read-in-ContentType g c = rw c.in-ContentType.is (variant_accepts value.ContentType value_bytes IsValue content_types c.args.reader.now c.read-in-ContentType.new.reader _ _ refl c.in_ok-read-in-ContentType.ensures)

pub returns-in_err-read-in-ContentType : goal.returns-in_err-read-in-ContentType
returns-in_err-read-in-ContentType g c =
    let p = err_from_is_err_and c.from_residual-in_err-read-in-ContentType.result c.from_residual-in_err-read-in-ContentType.ensures.1 in
    rw (p.1, p.2, c.in-ContentType.is) (variant_refuses value.ContentType value_bytes IsValue content_types c.args.reader.now c.read-in-ContentType.new.reader _ c.in_err-read-in-ContentType.ensures)

pub returns-in_ok-read-in-SpcStatementType : goal.returns-in_ok-read-in-SpcStatementType
returns-in_ok-read-in-SpcStatementType g c = rw c.in-SpcStatementType.is (variant_accepts value.SpcStatementType value_bytes IsValue statements c.args.reader.now c.read-in-SpcStatementType.new.reader _ _ refl c.in_ok-read-in-SpcStatementType.ensures)

pub returns-in_err-read-in-SpcStatementType : goal.returns-in_err-read-in-SpcStatementType
returns-in_err-read-in-SpcStatementType g c =
    let p = err_from_is_err_and c.from_residual-in_err-read-in-SpcStatementType.result c.from_residual-in_err-read-in-SpcStatementType.ensures.1 in
    rw (p.1, p.2, c.in-SpcStatementType.is) (variant_refuses value.SpcStatementType value_bytes IsValue statements c.args.reader.now c.read-in-SpcStatementType.new.reader _ c.in_err-read-in-SpcStatementType.ensures)

pub returns-in_ok-read-in-MessageDigest : goal.returns-in_ok-read-in-MessageDigest
returns-in_ok-read-in-MessageDigest g c = rw c.in-MessageDigest.is (variant_accepts value.MessageDigest value_bytes IsValue digests c.args.reader.now c.read-in-MessageDigest.new.reader _ _ refl c.in_ok-read-in-MessageDigest.ensures)

pub returns-in_err-read-in-MessageDigest : goal.returns-in_err-read-in-MessageDigest
returns-in_err-read-in-MessageDigest g c =
    let p = err_from_is_err_and c.from_residual-in_err-read-in-MessageDigest.result c.from_residual-in_err-read-in-MessageDigest.ensures.1 in
    rw (p.1, p.2, c.in-MessageDigest.is) (variant_refuses value.MessageDigest value_bytes IsValue digests c.args.reader.now c.read-in-MessageDigest.new.reader _ c.in_err-read-in-MessageDigest.ensures)

pub returns-in_ok-read-in-SigningTime : goal.returns-in_ok-read-in-SigningTime
returns-in_ok-read-in-SigningTime g c = rw c.in-SigningTime.is (variant_accepts value.SigningTime value_bytes IsValue times c.args.reader.now c.read-in-SigningTime.new.reader _ _ refl c.in_ok-read-in-SigningTime.ensures)

pub returns-in_err-read-in-SigningTime : goal.returns-in_err-read-in-SigningTime
returns-in_err-read-in-SigningTime g c =
    let p = err_from_is_err_and c.from_residual-in_err-read-in-SigningTime.result c.from_residual-in_err-read-in-SigningTime.ensures.1 in
    rw (p.1, p.2, c.in-SigningTime.is) (variant_refuses value.SigningTime value_bytes IsValue times c.args.reader.now c.read-in-SigningTime.new.reader _ c.in_err-read-in-SigningTime.ensures)

pub returns-in_ok-read-in-Custom : goal.returns-in_ok-read-in-Custom
returns-in_ok-read-in-Custom g c = rw c.in-Custom.is (variant_accepts value.Custom value_bytes IsValue raws c.args.reader.now c.read-in-Custom.new.reader _ _ refl c.in_ok-read-in-Custom.ensures)

pub returns-in_err-read-in-Custom : goal.returns-in_err-read-in-Custom
returns-in_err-read-in-Custom g c =
    let p = err_from_is_err_and c.from_residual-in_err-read-in-Custom.result c.from_residual-in_err-read-in-Custom.ensures.1 in
    rw (p.1, p.2, c.in-Custom.is) (variant_refuses value.Custom value_bytes IsValue raws c.args.reader.now c.read-in-Custom.new.reader _ c.in_err-read-in-Custom.ensures)
