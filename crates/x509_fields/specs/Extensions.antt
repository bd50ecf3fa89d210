-- Where the fields of an extension stand (RFC 5280, 4.1).
use Rattle.std.specs.Prelude.{◌≡◌, ℕ, Bool, List, [], ◌∷◌, Option, Some}
use Rattle.x509_der.specs.Boolean.{booleans}
use Rattle.x509_der.specs.ObjectIdentifier.{oids}
use Rattle.x509_der.specs.Tagged.{tagged}
use Rattle.x509_der.specs.Tally.{Tally}
use Rattle.picky_asn1_x509.specs.Extensions.{ExtensionFields, by_kind, kind_of, critical_of}
use Rattle.x509_fields.specs.Spans.{FieldIn, OptionalIn, Fill, all_of}
use Rattle.x509_fields.specs.declared.extension.ExtensionFields.{ExtensionFields as Places}
use Rattle.x509_fields.specs.declared.span.Span.{Span}

-- the fields in the order of their definition
abbrev pub extension_spans : Places → List (Option Span)
extension_spans at = Some at.extn_id ∷ at.critical ∷ Some at.extn_value ∷ []

-- the identifier, whether it is critical, where that is encoded, and the value in its OCTET STRING
pub record ExtensionIn {A : Type 0} (v : ExtensionFields A) (at : Places) (string : List ℕ) (whole : Tally) : Type 0 where
  pub critical : Option Bool
  pub critical_means : critical_of critical ≡ v.critical
  pub extn_id : FieldIn (tagged 6 oids) v.extn_id at.extn_id string whole
  pub critical_at : OptionalIn (tagged 1 booleans) critical at.critical string whole
  pub extn_value : FieldIn (by_kind (kind_of v.extn_id)) v.extn_value at.extn_value string whole
  pub fill : Fill string (all_of string) (extension_spans at)
