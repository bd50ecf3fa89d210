use Rattle.x509_outline_fields.specs.facts.Certificates.{walked_tbs}
use Rattle.x509_outline_fields.proofs.certificate.tbs_fields.Goals as goal

pub returns : goal.returns
returns g c = λ f string y st.
    walked_tbs c.spellings_are_lawful.ensures.element c.spellings_are_lawful-2.ensures.element c.spellings_are_lawful-3.ensures.element c.spellings_are_lawful-4.ensures.element _ (record {
      w = c.args.walk;
      w1 = c.next_if-version.new.self;
      t1 = c.next_if-version.ensures;
      w2 = c.next-serial_number.new.self;
      t2 = c.next-serial_number.ensures;
      w3 = c.next-signature.new.self;
      t3 = c.next-signature.ensures;
      w4 = c.next-issuer.new.self;
      t4 = c.next-issuer.ensures;
      w5 = c.next-validity.new.self;
      t5 = c.next-validity.ensures;
      w6 = c.next-subject.new.self;
      t6 = c.next-subject.ensures;
      w7 = c.next-subject_public_key_info.new.self;
      t7 = c.next-subject_public_key_info.ensures;
      w8 = c.next_if-issuer_unique_id.new.self;
      t8 = c.next_if-issuer_unique_id.ensures;
      w9 = c.next_if-subject_unique_id.new.self;
      t9 = c.next_if-subject_unique_id.ensures;
      w10 = c.next_if-extensions.new.self;
      t10 = c.next_if-extensions.ensures;
    }) f string y st
