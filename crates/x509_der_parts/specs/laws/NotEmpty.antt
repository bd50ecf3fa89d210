-- Elements are not empty.
use Rattle.std.proofs.Common.{length, ap, arith}
use Rattle.x509_der_parts.specs.Shape.{Shape, IsElement}
use Rattle.x509_der_parts.specs.facts.Element.{element_length, header_long}
use Rattle.x509_der_parts.specs.laws.Optional.{Full}

pub full : {V : Type 0} (s : Shape V) → IsElement s → Full s
full s e v p y a = let k = e.one v p y a in omega (arith, ap length k.bytes, element_length k.tag k.content, header_long k.content)
