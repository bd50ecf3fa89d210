use Rattle.std.proofs.Common.{ap, arith, length, length-append}
use Rattle.x509_der_parts.specs.Element.{element}
use Rattle.x509_der_parts.specs.facts.Element.{element_length}
use Rattle.x509_der_parts.proofs.element.first_element.Goals as goal

pub returns : goal.returns
returns c =
    let f = c.in-Ok.ensures.first in
    let t = c.in-Ok.content.now in
    let a = c.in-Ok.after.now in
    record {
      content = t;
      after = a;
      first = f;
      start = omega (arith, ap length f.bytes, length-append (element c.in-Ok.tag t) a, element_length c.in-Ok.tag t);
      end = omega (arith, ap length f.bytes, length-append (element c.in-Ok.tag t) a, element_length c.in-Ok.tag t);
    }

pub overflow_sub-start : goal.overflow_sub-start
overflow_sub-start c =
    let f = c.in-Ok.ensures.first in
    omega (arith, ap length f.bytes, length-append (element c.in-Ok.tag c.in-Ok.content.now) c.in-Ok.after.now, element_length c.in-Ok.tag c.in-Ok.content.now)
