use Rattle.std.proofs.Common.{ap}
use Rattle.picky_asn1_x509_parts.specs.declared.extension_value.ExtensionValue.TheVariants as value
use Rattle.picky_asn1_x509_parts.specs.declared.extension_view.ExtensionView.TheVariants as view
use Rattle.picky_asn1_x509_parts.proofs.extension_view.ExtensionViewSameLent.decides.Goals as goal

pub returns : goal.returns
returns g c (view.AuthorityKeyIdentifier x) (view.AuthorityKeyIdentifier y) = let d = c.decides.ensures x.now y.now in (λ h. ap value.AuthorityKeyIdentifier (d.0 h), λ h. d.1 (cc))
returns g c (view.SubjectKeyIdentifier x) (view.SubjectKeyIdentifier y) = let d = c.decides-2.ensures x.now y.now in (λ h. ap value.SubjectKeyIdentifier (d.0 h), λ h. d.1 (cc))
returns g c (view.KeyUsage x) (view.KeyUsage y) = let d = c.decides-3.ensures x.now y.now in (λ h. ap value.KeyUsage (d.0 h), λ h. d.1 (cc))
returns g c (view.SubjectAltName x) (view.SubjectAltName y) = let d = c.decides-4.ensures x.now y.now in (λ h. ap value.SubjectAltName (d.0 h), λ h. d.1 (cc))
returns g c (view.IssuerAltName x) (view.IssuerAltName y) = let d = c.decides-4.ensures x.now y.now in (λ h. ap value.IssuerAltName (d.0 h), λ h. d.1 (cc))
returns g c (view.BasicConstraints x) (view.BasicConstraints y) = let d = c.decides-5.ensures x.now y.now in (λ h. ap value.BasicConstraints (d.0 h), λ h. d.1 (cc))
returns g c (view.ExtendedKeyUsage x) (view.ExtendedKeyUsage y) = let d = c.decides-6.ensures x.now y.now in (λ h. ap value.ExtendedKeyUsage (d.0 h), λ h. d.1 (cc))
returns g c (view.Generic x) (view.Generic y) = let d = c.decides-2.ensures x.now y.now in (λ h. ap value.Generic (d.0 h), λ h. d.1 (cc))
returns g c (view.CrlNumber x) (view.CrlNumber y) = let d = c.decides-7.ensures x.now y.now in (λ h. ap value.CrlNumber (d.0 h), λ h. d.1 (cc))
returns g c x y = (λ h. cc, λ h. cc)
