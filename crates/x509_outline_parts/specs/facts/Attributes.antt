-- Attributes with the same parts are the same.
use Rattle.std.proofs.Common.{◌≡◌, ap}
use Rattle.x509_outline_parts.specs.Attributes.{Fields, attribute_parts}
use Rattle.x509_outline_parts.specs.declared.attribute_outline.AttributeOutline.{AttributeOutline}

abbrev pub attribute_of : {A : Type 0} → Fields → AttributeOutline A
attribute_of f = record { attribute_type = f.0; value = f.1 }

pub attribute_same : {A : Type 0} (v w : AttributeOutline A) → attribute_parts v ≡ attribute_parts w → v ≡ w
attribute_same v w e = ap attribute_of e
