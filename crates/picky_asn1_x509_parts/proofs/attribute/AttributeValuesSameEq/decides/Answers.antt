use Rattle.std.proofs.Common.{ap}
use Rattle.picky_asn1_x509_parts.specs.declared.attribute.AttributeValues.TheVariants as value
use Rattle.picky_asn1_x509_parts.proofs.attribute.AttributeValuesSameEq.decides.Goals as goal

pub returns : goal.returns
returns g c (value.Extensions x) (value.Extensions y) = let d = c.decides.ensures x y in (λ h. ap value.Extensions (d.0 h), λ h. d.1 (cc))
returns g c (value.ContentType x) (value.ContentType y) = let d = c.decides-2.ensures x y in (λ h. ap value.ContentType (d.0 h), λ h. d.1 (cc))
returns g c (value.SpcStatementType x) (value.SpcStatementType y) = let d = c.decides-3.ensures x y in (λ h. ap value.SpcStatementType (d.0 h), λ h. d.1 (cc))
returns g c (value.MessageDigest x) (value.MessageDigest y) = let d = c.decides-4.ensures x y in (λ h. ap value.MessageDigest (d.0 h), λ h. d.1 (cc))
returns g c (value.SigningTime x) (value.SigningTime y) = let d = c.decides-5.ensures x y in (λ h. ap value.SigningTime (d.0 h), λ h. d.1 (cc))
returns g c (value.Custom x) (value.Custom y) = let d = c.decides-6.ensures x y in (λ h. ap value.Custom (d.0 h), λ h. d.1 (cc))
returns g c x y = (λ h. cc, λ h. cc)
