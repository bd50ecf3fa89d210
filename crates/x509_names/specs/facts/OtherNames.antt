-- A name of a form of one's own.
use Rattle.std.proofs.Common.{◌≡◌, ap}
use Rattle.x509_names.specs.declared.other_name.OtherName.{OtherName}
use Rattle.x509_names.specs.OtherNames.{Fields, other_parts}

abbrev pub other_of : {A : Type 0} → Fields → OtherName A
other_of f = record { type_id = f.0; value = f.1 }

pub other_same : {A : Type 0} (v w : OtherName A) → other_parts v ≡ other_parts w → v ≡ w
other_same v w e = ap other_of e
