-- Attributes with the same type and the same values are the same.
use Rattle.std.proofs.Common.{◌≡◌, ap}
use Rattle.picky_asn1_x509_parts.specs.Attribute.{Fields, attribute_parts}
use Rattle.picky_asn1_x509_parts.specs.declared.attribute.Attribute.{Attribute}

abbrev pub attribute_of : {A : Type 0} → Fields A → Attribute A
attribute_of f = record { ty = f.0; value = f.1 }

pub attribute_same : {A : Type 0} (v w : Attribute A) → attribute_parts v ≡ attribute_parts w → v ≡ w
attribute_same v w e = ap attribute_of e
