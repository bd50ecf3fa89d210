-- Attributes with the same type and the same value are the same.
use Rattle.std.proofs.Common.{◌≡◌, ap}
use Rattle.x509_names.specs.declared.attribute_type_and_value.AttributeTypeAndValue.{AttributeTypeAndValue}
use Rattle.x509_names.specs.Attributes.{Fields, attribute_parts}

abbrev pub attribute_of : {A : Type 0} → Fields A → AttributeTypeAndValue A
attribute_of f = record { ty = f.0; value = f.1 }

pub attribute_same : {A : Type 0} (v w : AttributeTypeAndValue A) → attribute_parts v ≡ attribute_parts w → v ≡ w
attribute_same v w e = ap attribute_of e
