use Rattle.std.proofs.Common.{ap}
use Rattle.picky_asn1_x509_parts.specs.declared.extension_value.ExtensionValue.TheVariants as value
use Rattle.picky_asn1_x509_parts.proofs.extension_value.ExtensionValueSameEq.decides.Goals as goal

pub returns : goal.returns
returns g c (value.AuthorityKeyIdentifier x) (value.AuthorityKeyIdentifier y) = let d = c.decides.ensures x y in (λ h. ap value.AuthorityKeyIdentifier (d.0 h), λ h. d.1 (cc))
returns g c (value.SubjectKeyIdentifier x) (value.SubjectKeyIdentifier y) = let d = c.decides-2.ensures x y in (λ h. ap value.SubjectKeyIdentifier (d.0 h), λ h. d.1 (cc))
returns g c (value.KeyUsage x) (value.KeyUsage y) = let d = c.decides-3.ensures x y in (λ h. ap value.KeyUsage (d.0 h), λ h. d.1 (cc))
returns g c (value.SubjectAltName x) (value.SubjectAltName y) = let d = c.decides-4.ensures x y in (λ h. ap value.SubjectAltName (d.0 h), λ h. d.1 (cc))
returns g c (value.IssuerAltName x) (value.IssuerAltName y) = let d = c.decides-4.ensures x y in (λ h. ap value.IssuerAltName (d.0 h), λ h. d.1 (cc))
returns g c (value.BasicConstraints x) (value.BasicConstraints y) = let d = c.decides-5.ensures x y in (λ h. ap value.BasicConstraints (d.0 h), λ h. d.1 (cc))
returns g c (value.ExtendedKeyUsage x) (value.ExtendedKeyUsage y) = let d = c.decides-6.ensures x y in (λ h. ap value.ExtendedKeyUsage (d.0 h), λ h. d.1 (cc))
returns g c (value.Generic x) (value.Generic y) = let d = c.decides-7.ensures x y in (λ h. ap value.Generic (d.0 h), λ h. d.1 (cc))
returns g c (value.CrlNumber x) (value.CrlNumber y) = let d = c.decides-8.ensures x y in (λ h. ap value.CrlNumber (d.0 h), λ h. d.1 (cc))
returns g c x y = (λ h. cc, λ h. cc)
