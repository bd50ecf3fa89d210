use Rattle.std.proofs.Common.{◌+◌, drop, sym, ap, ◌∙◌, arith}
use Rattle.x509_der.specs.Lasts.{ascends_from}
use Rattle.picky_asn1_x509_parts.specs.AuthorityKeyIdentifier.{number}
use Rattle.picky_asn1_x509_parts.specs.facts.AuthorityKeyIdentifierFacts.{ascends_stops, ascends_goes}
use Rattle.picky_asn1_x509_parts.proofs.authority_key_identifier.are_ascending.Goals as goal

pub returns-then-number-least : goal.returns-then-number-least
returns-then-number-least g c =
    let f = c.fields in
    sym (f.invariant.rest ∙ ascends_stops c.args.fields.now f.least f.field-index c.field-item.result c.fields-test.true c.field-item.is (omega (arith, c.if-number-least.true, c.number_of-number.ensures.number)))

pub fields-preserved : goal.fields-preserved
fields-preserved g c =
    let f = c.fields in
    let e = c.number_of-number.ensures in
    record {
      few = omega (arith, e.few);
      rest =
          f.invariant.rest
          ∙ ascends_goes c.args.fields.now f.least f.field-index c.field-item.result c.fields-test.true c.field-item.is (omega (arith, c.if-number-least.false, e.number))
          ∙ ap (λ n. ascends_from (number {A = g.row.A.Denot}) (n + 1) (drop (f.field-index + 1) c.args.fields.now)) (sym e.number);
    }
