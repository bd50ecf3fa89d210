use Rattle.x509_der.specs.facts.FieldPlaces.{stands_parts, stands_first, stands_second}
use Rattle.x509_more_outlines.specs.PublicBits.{bits_parts, bits_base, implicit_bits, explicit_bits}
use Rattle.x509_more_outlines.specs.declared.public_bits_outline.PublicBitsOutline.TheVariants.{Implicit, Explicit}
use Rattle.x509_more_outlines.proofs.laws.public_bits_outline_fields.Goals as goal

pub returns : goal.returns
returns g c (Implicit v) string y a = stands_first implicit_bits explicit_bits v 0 string string y (stands_parts bits_parts bits_base (Implicit v) 0 string string y (c.fields.ensures (Implicit v) string y a))
returns g c (Explicit v) string y a = stands_second implicit_bits explicit_bits v 0 string string y (stands_parts bits_parts bits_base (Explicit v) 0 string string y (c.fields.ensures (Explicit v) string y a))
