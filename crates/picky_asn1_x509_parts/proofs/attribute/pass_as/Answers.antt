use Rattle.std.proofs.Common.{refl}
use Rattle.x509_der.specs.RawElement.{raws}
use Rattle.x509_der.specs.reads.Passing.{variant_passed}
use Rattle.picky_asn1_x509_parts.specs.Attribute.{content_types, digests, requests, statements, times, value_bytes, IsValue}
use Rattle.picky_asn1_x509_parts.specs.declared.attribute.AttributeValues.TheVariants as value
use Rattle.picky_asn1_x509_parts.proofs.attribute.pass_as.Goals as goal

pub returns-in-Extensions : goal.returns-in-Extensions
returns-in-Extensions g c = rw c.in-Extensions.is (variant_passed value.Extensions value_bytes IsValue requests (λ v. tt) (λ v. tt) c.args.reader.now c.pass_only.new.reader c.pass_only.result (λ u. refl) c.pass_only.ensures)

pub returns-in-ContentType : goal.returns-in-ContentType
returns-in-ContentType g c = rw c.in-ContentType.is (variant_passed value.ContentType value_bytes IsValue content_types (λ v. tt) (λ v. tt) c.args.reader.now c.pass_only-in-ContentType.new.reader c.pass_only-in-ContentType.result (λ u. refl) c.pass_only-in-ContentType.ensures)

pub returns-in-SpcStatementType : goal.returns-in-SpcStatementType
returns-in-SpcStatementType g c = rw c.in-SpcStatementType.is (variant_passed value.SpcStatementType value_bytes IsValue statements (λ v. tt) (λ v. tt) c.args.reader.now c.pass_only-in-SpcStatementType.new.reader c.pass_only-in-SpcStatementType.result (λ u. refl) c.pass_only-in-SpcStatementType.ensures)

pub returns-in-MessageDigest : goal.returns-in-MessageDigest
returns-in-MessageDigest g c = rw c.in-MessageDigest.is (variant_passed value.MessageDigest value_bytes IsValue digests (λ v. tt) (λ v. tt) c.args.reader.now c.pass_only-in-MessageDigest.new.reader c.pass_only-in-MessageDigest.result (λ u. refl) c.pass_only-in-MessageDigest.ensures)

pub returns-in-SigningTime : goal.returns-in-SigningTime
returns-in-SigningTime g c = rw c.in-SigningTime.is (variant_passed value.SigningTime value_bytes IsValue times (λ v. tt) (λ v. tt) c.args.reader.now c.pass_only-in-SigningTime.new.reader c.pass_only-in-SigningTime.result (λ u. refl) c.pass_only-in-SigningTime.ensures)

pub returns-in-Custom : goal.returns-in-Custom
returns-in-Custom g c = rw c.in-Custom.is (variant_passed value.Custom value_bytes IsValue raws (λ v. tt) (λ v. tt) c.args.reader.now c.pass_only-in-Custom.new.reader c.pass_only-in-Custom.result (λ u. refl) c.pass_only-in-Custom.ensures)
