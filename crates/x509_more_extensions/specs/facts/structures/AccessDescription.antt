-- Facts about AccessDescription, written by tools/structures.py from declarations.asn1.
use Rattle.std.proofs.Common.{◌≡◌, ap}
use Rattle.x509_more_extensions.specs.declared.structures.access_description.AccessDescription.{AccessDescription}
use Rattle.x509_more_extensions.specs.AccessDescription.{Fields, access_description_parts}

abbrev pub access_description_of : {A : Type 0} → Fields A → AccessDescription A
access_description_of f = record { access_method = f.0; access_location = f.1 }

pub access_description_same : {A : Type 0} (v w : AccessDescription A) → access_description_parts v ≡ access_description_parts w → v ≡ w
access_description_same v w e = ap access_description_of e
