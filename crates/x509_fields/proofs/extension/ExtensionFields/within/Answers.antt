use Rattle.std.proofs.Common.{refl, lit<}
use Rattle.x509_fields.specs.facts.Extensions.{walked_extension}
use Rattle.x509_fields.specs.facts.Fields.{whole_content}
use Rattle.x509_fields.proofs.extension.ExtensionFields.within.Goals as goal

pub returns : goal.returns
returns g c = λ v y a.
    let s = c.extension_fields.ensures v c.args.bytes.now y a in
    let i = whole_content 48 s.content c.args.bytes.now c.of.result c.inside-walk.result refl (lit< tt) s.bytes c.of.ensures.rest c.of.ensures.at c.inside-walk.ensures in
    walked_extension _ (record {
      w = c.inside-walk.result;
      w1 = c.next-extn_id.new.self;
      t1 = c.next-extn_id.ensures;
      w2 = c.next_if-critical.new.self;
      t2 = c.next_if-critical.ensures;
      w3 = c.next-extn_value.new.self;
      t3 = c.next-extn_value.ensures;
    }) v c.args.bytes.now y s i.0 i.1
