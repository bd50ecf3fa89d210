-- What another view lends isn't what is looked for.
use Rattle.std.proofs.Common.{◌≡◌, None, refl}
use Rattle.picky_asn1_x509_parts.specs.Extensions.{viewed}
use Rattle.picky_asn1_x509_parts.specs.declared.extension_view.ExtensionView.{ExtensionView}
use Rattle.picky_asn1_x509_parts.specs.declared.extension_view.ExtensionView.TheVariants as view
use Rattle.picky_asn1_x509.specs.LookUps.{subject_key_in, authority_key_in, constraints_in}

-- what another view lends holds no subject key identifier
pub no_subject_key : {A : Type 0} (v : ExtensionView A) → ((x : _) → v ≡ view.SubjectKeyIdentifier x → ⊥) → subject_key_in (viewed v) ≡ None
no_subject_key (view.AuthorityKeyIdentifier x) h = refl
no_subject_key (view.SubjectKeyIdentifier x) h = absurd (h x refl)
no_subject_key (view.KeyUsage x) h = refl
no_subject_key (view.SubjectAltName x) h = refl
no_subject_key (view.IssuerAltName x) h = refl
no_subject_key (view.BasicConstraints x) h = refl
no_subject_key (view.ExtendedKeyUsage x) h = refl
no_subject_key (view.Generic x) h = refl
no_subject_key (view.CrlNumber x) h = refl

-- nor which key signed
pub no_authority_key : {A : Type 0} (v : ExtensionView A) → ((x : _) → v ≡ view.AuthorityKeyIdentifier x → ⊥) → authority_key_in (viewed v) ≡ None
no_authority_key (view.AuthorityKeyIdentifier x) h = absurd (h x refl)
no_authority_key (view.SubjectKeyIdentifier x) h = refl
no_authority_key (view.KeyUsage x) h = refl
no_authority_key (view.SubjectAltName x) h = refl
no_authority_key (view.IssuerAltName x) h = refl
no_authority_key (view.BasicConstraints x) h = refl
no_authority_key (view.ExtendedKeyUsage x) h = refl
no_authority_key (view.Generic x) h = refl
no_authority_key (view.CrlNumber x) h = refl

-- nor constraints
pub no_constraints : {A : Type 0} (v : ExtensionView A) → ((x : _) → v ≡ view.BasicConstraints x → ⊥) → constraints_in (viewed v) ≡ None
no_constraints (view.AuthorityKeyIdentifier x) h = refl
no_constraints (view.SubjectKeyIdentifier x) h = refl
no_constraints (view.KeyUsage x) h = refl
no_constraints (view.SubjectAltName x) h = refl
no_constraints (view.IssuerAltName x) h = refl
no_constraints (view.BasicConstraints x) h = absurd (h x refl)
no_constraints (view.ExtendedKeyUsage x) h = refl
no_constraints (view.Generic x) h = refl
no_constraints (view.CrlNumber x) h = refl
