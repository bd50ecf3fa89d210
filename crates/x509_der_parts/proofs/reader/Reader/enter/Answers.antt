use Rattle.std.proofs.Common.{◌≡◌, length, ◌+◌, ◌-◌, length-append, arith, ap}
use Rattle.x509_der_parts.specs.reads.Header.{other_tag, entered}
use Rattle.x509_der_parts.specs.Reading.{Cursor}
use Rattle.x509_der_parts.specs.facts.Element.{element_length}
use Rattle.x509_der_parts.specs.Element.{element}
use Rattle.x509_der_parts.proofs.reader.Reader.enter.Goals as goal

pub returns-then-found-tag-clause-enters : goal.returns-then-found-tag-clause-enters
returns-then-found-tag-clause-enters g c =
    let v = c.self.view_is in
    let r : c.self.inside.rest.now ≡ c.args.self.now.rest = ap (λ (x : Cursor). x.rest) v in
    record {
      none = other_tag c.args.self.now.rest c.in_ok-found.found c.args.tag c.in_ok-found.content.now c.in_ok-found.after.now (rw r at c.in_ok-found.ensures.first) c.if-found-tag.true;
      at = ap (λ (x : Cursor). x.at) v;
    }

pub returns-clause-enters : goal.returns-clause-enters
returns-clause-enters g c =
    let v = c.self.view_is in
    let f = c.in_ok-found.ensures.first in
    let r : c.self.inside.rest.now ≡ c.args.self.now.rest = ap (λ (x : Cursor). x.rest) v in
    let a : c.self.inside.at ≡ c.args.self.now.at = ap (λ (x : Cursor). x.at) v in
    let at : (c.self.inside.at + (length c.self.inside.rest.now - length c.in_ok-found.content.now - length c.in_ok-found.after.now)) + length c.in_ok-found.content.now + length c.in_ok-found.after.now ≡ c.args.self.now.at + length c.args.self.now.rest = omega (arith, a, ap length r, ap length f.bytes, length-append (element c.in_ok-found.found c.in_ok-found.content.now) c.in_ok-found.after.now, element_length c.in_ok-found.found c.in_ok-found.content.now) in
    entered c.in_ok-found.found c.args.tag c.args.self.now _ c.in_ok-found.after.now (rw r at f) c.if-found-tag.false c.requires.ready
    (ap (λ (x : Cursor). x.headers + 1) v)
    (ap (λ (x : Cursor). x.counts) v)
    at
    (ap (λ (x : Cursor). x.places) v)

pub overflow_sub-self : goal.overflow_sub-self
overflow_sub-self g c =
    let f = c.in_ok-found.ensures.first in
    omega (arith, ap length f.bytes, length-append (element c.in_ok-found.found c.in_ok-found.content.now) c.in_ok-found.after.now, element_length c.in_ok-found.found c.in_ok-found.content.now)

pub overflow_sub-self-2 : goal.overflow_sub-self-2
overflow_sub-self-2 g c =
    let f = c.in_ok-found.ensures.first in
    omega (arith, ap length f.bytes, length-append (element c.in_ok-found.found c.in_ok-found.content.now) c.in_ok-found.after.now, element_length c.in_ok-found.found c.in_ok-found.content.now)
