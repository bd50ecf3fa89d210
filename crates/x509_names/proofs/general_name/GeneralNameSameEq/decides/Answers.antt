use Rattle.std.proofs.Common.{ap}
use Rattle.x509_names.specs.declared.general_name.GeneralName.TheVariants as form
use Rattle.x509_names.proofs.general_name.GeneralNameSameEq.decides.Goals as goal

pub returns : goal.returns
returns g c (form.OtherName x) (form.OtherName y) = let d = c.decides.ensures x y in (λ h. ap form.OtherName (d.0 h), λ h. d.1 (cc))
returns g c (form.Rfc822Name x) (form.Rfc822Name y) = let d = c.decides-2.ensures x y in (λ h. ap form.Rfc822Name (d.0 h), λ h. d.1 (cc))
returns g c (form.DnsName x) (form.DnsName y) = let d = c.decides-2.ensures x y in (λ h. ap form.DnsName (d.0 h), λ h. d.1 (cc))
returns g c (form.DirectoryName x) (form.DirectoryName y) = let d = c.decides-3.ensures x y in (λ h. ap form.DirectoryName (d.0 h), λ h. d.1 (cc))
returns g c (form.EdiPartyName x) (form.EdiPartyName y) = let d = c.decides-4.ensures x y in (λ h. ap form.EdiPartyName (d.0 h), λ h. d.1 (cc))
returns g c (form.Uri x) (form.Uri y) = let d = c.decides-2.ensures x y in (λ h. ap form.Uri (d.0 h), λ h. d.1 (cc))
returns g c (form.IpAddress x) (form.IpAddress y) = let d = c.decides-5.ensures x y in (λ h. ap form.IpAddress (d.0 h), λ h. d.1 (cc))
returns g c (form.RegisteredId x) (form.RegisteredId y) = let d = c.decides-6.ensures x y in (λ h. ap form.RegisteredId (d.0 h), λ h. d.1 (cc))
returns g c x y = (λ h. cc, λ h. cc)
