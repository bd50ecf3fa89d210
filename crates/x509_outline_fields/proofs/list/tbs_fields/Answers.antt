use Rattle.x509_outline_fields.specs.facts.Lists.{walked_tbs_list}
use Rattle.x509_outline_fields.proofs.list.tbs_fields.Goals as goal

pub returns : goal.returns
returns g c = λ f string y st.
    walked_tbs_list c.spellings_are_lawful.ensures.lawful c.spellings_are_lawful.ensures.element c.spellings_are_lawful-2.ensures.element c.spellings_are_lawful-3.ensures.element c.spellings_are_lawful-4.ensures.lawful c.spellings_are_lawful-4.ensures.element _ (record {
      w = c.args.walk;
      w1 = c.next_if-version.new.self;
      t1 = c.next_if-version.ensures;
      w2 = c.next-signature.new.self;
      t2 = c.next-signature.ensures;
      w3 = c.next-issuer.new.self;
      t3 = c.next-issuer.ensures;
      w4 = c.next-this_update.new.self;
      t4 = c.next-this_update.ensures;
      w5 = c.next_time-next_update.new.walk;
      t5 = c.next_time-next_update.ensures;
      w6 = c.next_if-revoked_certificates.new.self;
      t6 = c.next_if-revoked_certificates.ensures;
      w7 = c.next_if-crl_extensions.new.self;
      t7 = c.next_if-crl_extensions.ensures;
    }) f string y st
