-- What holds no alternative names.
use Rattle.std.proofs.Common.{◌≡◌, None, refl}
use Rattle.picky_asn1_x509.specs.Extensions.{viewed}
use Rattle.picky_asn1_x509.specs.Types.{ExtensionView}
use Rattle.picky_asn1_x509.specs.Types.extension_view as view
use Rattle.x509_callers.specs.AlternativeNames.{names_in}

-- what another view lends
pub no_names : {A : Type 0} (v : ExtensionView A) → ((x : _) → v ≡ view.SubjectAltName x → ⊥) → names_in (viewed v) ≡ None
no_names (view.AuthorityKeyIdentifier x) h = refl
no_names (view.SubjectKeyIdentifier x) h = refl
no_names (view.KeyUsage x) h = refl
no_names (view.SubjectAltName x) h = absurd (h x refl)
no_names (view.IssuerAltName x) h = refl
no_names (view.BasicConstraints x) h = refl
no_names (view.ExtendedKeyUsage x) h = refl
no_names (view.Generic x) h = refl
no_names (view.CrlNumber x) h = refl
