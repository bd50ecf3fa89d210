use Rattle.x509_fields.specs.facts.ExtensionLists.{items_there, items_absent, carried}
use Rattle.x509_fields.proofs.extension_list.certificate_items.Goals as goal

pub returns-in-Some : goal.returns-in-Some
returns-in-Some g c = λ v y a.
    let r = c.within-places.ensures v y a in
    carried v c.within-places.result c.args.bytes.now y c.inside-in-Some.result r (items_there c.spellings_are_lawful.ensures.lawful r.fields.extensions c.within-places.result.fields.extensions c.in-Some.tagged c.args.bytes.now y c.inside-in-Some.result r.fields.fields.extensions c.in-Some.is (record {
      w = c.over.result;
      w1 = c.inside.result;
      over = c.over.ensures.covered;
      tag = c.inside.ensures;
      list = c.inside-in-Some.ensures;
    }))

pub returns-in-None : goal.returns-in-None
returns-in-None g c = λ v y a.
    let r = c.within-places.ensures v y a in
    carried v c.within-places.result c.args.bytes.now y c.of.result r (items_absent r.fields.extensions c.within-places.result.fields.extensions c.args.bytes.now y c.of.result r.fields.fields.extensions c.in-None.is c.of.ensures.rest c.of.ensures.at)
