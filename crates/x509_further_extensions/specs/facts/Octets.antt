-- That what the port reads itself isn't kept as octets.
use Rattle.std.proofs.Common.{◌≡◌, None, refl}
use Rattle.picky_asn1_x509.specs.Extensions.{viewed}
use Rattle.picky_asn1_x509.specs.Types.{ExtensionView}
use Rattle.picky_asn1_x509.specs.Types.extension_view as view
use Rattle.x509_further_extensions.specs.Further.{octets_in}

pub no_octets : {A : Type 0} (v : ExtensionView A) → ((x : _) → v ≡ view.Generic x → ⊥) → octets_in (viewed v) ≡ None
no_octets (view.Generic x) h = absurd (h x refl)
no_octets (view.AuthorityKeyIdentifier x) h = refl
no_octets (view.SubjectKeyIdentifier x) h = refl
no_octets (view.KeyUsage x) h = refl
no_octets (view.SubjectAltName x) h = refl
no_octets (view.IssuerAltName x) h = refl
no_octets (view.BasicConstraints x) h = refl
no_octets (view.ExtendedKeyUsage x) h = refl
no_octets (view.CrlNumber x) h = refl
