use Rattle.x509_der_parts.specs.laws.Tagged.{tagged_element}
use Rattle.x509_der.proofs.laws.tagged_fields_are_elements.Goals as goal

pub returns : goal.returns
returns g c = tagged_element g.N.Tag.BYTE g.F.Content.content_shape g.N.Tag.one_byte g.N.Tag.is_byte
