-- What stands in front of the value of an extension keeps the laws.
use Rattle.std.proofs.Common.{◌≡◌, Bool, Option, Some, None, refl, ap}
use Rattle.x509_der.specs.Boolean.{booleans}
use Rattle.x509_der.specs.ObjectIdentifier.{oids}
use Rattle.x509_der.specs.Optional.{optional, brief_if}
use Rattle.x509_der.specs.Shape.{Lawful}
use Rattle.x509_der.specs.Tagged.{tagged}
use Rattle.x509_der.specs.facts.ObjectIdentifier.{oid_lawful}
use Rattle.x509_der.specs.laws.Boolean.{boolean_lawful}
use Rattle.x509_der.specs.laws.NotEmpty.{full}
use Rattle.x509_der.specs.laws.Optional.{optional_lawful}
use Rattle.x509_der.specs.laws.Tagged.{tagged_lawful, tagged_element}
use Rattle.std.proofs.Common.{lit<}

pub oid_element_lawful : Lawful (tagged 6 oids)
oid_element_lawful = tagged_lawful 6 oids oid_lawful

pub critical_lawful : Lawful (optional (tagged 1 booleans))
critical_lawful = optional_lawful (tagged 1 booleans) (tagged_lawful 1 booleans boolean_lawful) (full (tagged 1 booleans) (tagged_element 1 booleans refl (lit< tt)))

-- a truth value is kept as it is
pub critical_kept : (o b : Option Bool) → brief_if (λ v. v) o ≡ b → o ≡ b
critical_kept None b e = e
critical_kept (Some v) b e = e
