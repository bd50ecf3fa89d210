use Rattle.x509_outline_fields.specs.facts.Certificates.{walked_certificate}
use Rattle.x509_outline_fields.proofs.certificate.fields_within.Goals as goal

pub returns : goal.returns
returns g c = λ v y a.
    walked_certificate c.spellings_are_lawful.ensures.element c.spellings_are_lawful-2.ensures.element _ c.of.result (record {
      w = c.inside-outer.result;
      inner = c.inside.result;
      inside = c.inside-outer.ensures;
      within = c.inside.ensures;
      w1 = c.next-tbs_certificate.new.self;
      t1 = c.next-tbs_certificate.ensures;
      w2 = c.next-signature_algorithm.new.self;
      t2 = c.next-signature_algorithm.ensures;
      w3 = c.next-signature_value.new.self;
      t3 = c.next-signature_value.ensures;
    }) v c.args.bytes.now y (c.certificate_outline_fields.ensures v c.args.bytes.now y a) c.of.ensures.rest c.of.ensures.at c.tbs_fields-fields.ensures
