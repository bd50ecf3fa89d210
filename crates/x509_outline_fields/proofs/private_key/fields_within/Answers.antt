use Rattle.std.proofs.Common.{refl, lit<}
use Rattle.x509_fields.specs.facts.Fields.{whole_content}
use Rattle.x509_outline_fields.specs.facts.PrivateKeys.{walked_key}
use Rattle.x509_outline_fields.proofs.private_key.fields_within.Goals as goal

pub returns : goal.returns
returns g c = λ v y a.
    let s = c.private_key_outline_fields.ensures v c.args.bytes.now y a in
    let i = whole_content 48 s.content c.args.bytes.now c.of.result c.inside-walk.result refl (lit< tt) s.bytes c.of.ensures.rest c.of.ensures.at c.inside-walk.ensures in
    walked_key c.spellings_are_lawful.ensures.element c.spellings_are_lawful-2.ensures.lawful c.spellings_are_lawful-2.ensures.element _ (record {
      w = c.inside-walk.result;
      w1 = c.next-version.new.self;
      t1 = c.next-version.ensures;
      w2 = c.next-private_key_algorithm.new.self;
      t2 = c.next-private_key_algorithm.ensures;
      w3 = c.next-private_key.new.self;
      t3 = c.next-private_key.ensures;
      w4 = c.next_if-skipped.new.self;
      t4 = c.next_if-skipped.ensures;
      w5 = c.next_unless-public_key.new.self;
      t5 = c.next_unless-public_key.ensures;
    }) v c.args.bytes.now y s i.0 i.1
