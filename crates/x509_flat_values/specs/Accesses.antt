-- What is told of the places where services of an authority or a subject are found (RFC 5280, 4.2.2).
use Rattle.std.specs.Prelude.{◌≡◌, ℕ, ◌+◌, List, ◌++◌, length}
use Rattle.x509_der.specs.Element.{element, header}
use Rattle.x509_der.specs.Fields.{FieldAt}
use Rattle.x509_der.specs.ObjectIdentifier.{oids}
use Rattle.x509_der.specs.Tagged.{tagged}
use Rattle.x509_der.specs.Tally.{Tally}
use Rattle.x509_more_extensions.specs.AccessDescription.{access_description}
use Rattle.x509_more_extensions.specs.declared.structures.access_description.AccessDescription.{AccessDescription}
use Rattle.x509_values.specs.GeneralNames.{GeneralNameTold}
use Rattle.x509_values.specs.Told.{HeldIn}
use Rattle.x509_flat.specs.declared.status.Status.{Status}
use Rattle.x509_flat_values.specs.Lists.{ListFills}
use Rattle.x509_flat_values.specs.declared.accesses.AccessPlace.{AccessPlace}

-- of a description in the slice, which stands behind so many bytes: the content of its method, which is an OBJECT IDENTIFIER, and its location, which is a general name
pub record AccessTold {A : Type 0} (string : List ℕ) (whole : Tally) (v : AccessDescription A) (n : ℕ) (slice : List ℕ) (at : AccessPlace) : Type 0 where
  pub content : List ℕ
  pub methods : List ℕ
  pub locations : List ℕ
  pub bytes : slice ≡ element 48 content
  pub fields : content ≡ methods ++ locations
  pub method_at : FieldAt (tagged 6 oids) v.access_method (n + header content) methods string whole
  pub method : HeldIn 6 methods (n + header content) at.method
  pub location : GeneralNameTold string whole v.access_location ((n + header content) + length methods) locations at.location

-- what a status says of telling those of an extension's value
abbrev pub AccessesFill : (A : Type 0) → List ℕ → List AccessPlace → List AccessPlace → Status → ℕ → Type 0
AccessesFill A value old new status count = ListFills (access_description {A = A}) AccessTold value old new status count
