-- Attributes with the same parts are the same.
use Rattle.std.proofs.Common.{◌≡◌, ap}
use Rattle.x509_outline_parts.specs.AttributeValues.{Fields, values_parts}
use Rattle.x509_outline_parts.specs.declared.attribute_values_outline.AttributeValuesOutline.{AttributeValuesOutline}

abbrev pub values_of : {A : Type 0} → Fields → AttributeValuesOutline A
values_of f = record { attribute_type = f.0; values = f.1 }

pub values_same : {A : Type 0} (v w : AttributeValuesOutline A) → values_parts v ≡ values_parts w → v ≡ w
values_same v w e = ap values_of e
