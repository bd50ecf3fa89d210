use Rattle.x509_outline_fields.specs.facts.Requests.{walked_info}
use Rattle.x509_outline_fields.proofs.request.info_fields.Goals as goal

pub returns : goal.returns
returns g c = λ f string y st.
    walked_info c.spellings_are_lawful.ensures.element c.spellings_are_lawful-2.ensures.element _ (record {
      w = c.args.walk;
      w1 = c.next-version.new.self;
      t1 = c.next-version.ensures;
      w2 = c.next-subject.new.self;
      t2 = c.next-subject.ensures;
      w3 = c.next-subject_public_key_info.new.self;
      t3 = c.next-subject_public_key_info.ensures;
      w4 = c.next-attributes.new.self;
      t4 = c.next-attributes.ensures;
    }) f string y st
