use Rattle.std.proofs.Common.{refl, lit<}
use Rattle.x509_fields.specs.facts.Keys.{walked_key}
use Rattle.x509_fields.specs.facts.Fields.{whole_content}
use Rattle.x509_fields.proofs.private_key.PrivateKeyInfoFields.within.Goals as goal

pub returns : goal.returns
returns g c = λ v y a.
    let s = c.private_key_fields.ensures v c.args.bytes.now y a in
    let i = whole_content 48 s.content c.args.bytes.now c.of.result c.inside-walk.result refl (lit< tt) s.bytes c.of.ensures.rest c.of.ensures.at c.inside-walk.ensures in
    walked_key c.spellings_are_lawful.ensures.element _ (record {
      w = c.inside-walk.result;
      w1 = c.next-version.new.self;
      t1 = c.next-version.ensures;
      w2 = c.next-private_key_algorithm.new.self;
      t2 = c.next-private_key_algorithm.ensures;
      w3 = c.next-private_key.new.self;
      t3 = c.next-private_key.ensures;
      w4 = c.next_unless-skipped.new.self;
      t4 = c.next_unless-skipped.ensures;
      w5 = c.next_if-public_key.new.self;
      t5 = c.next_if-public_key.ensures;
    }) v c.args.bytes.now y s i.0 i.1
