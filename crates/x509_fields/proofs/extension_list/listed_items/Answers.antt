use Rattle.std.proofs.Common.{◌∙◌, sym, ap, refl, lit<}
use Rattle.x509_der.specs.Element.{element, header}
use Rattle.x509_der.specs.Items.{items}
use Rattle.x509_der.specs.facts.ElementPlaces.{content_first}
use Rattle.picky_asn1_x509.specs.Extensions.{extension}
use Rattle.x509_fields.specs.facts.ExtensionLists.{moved_items}
use Rattle.x509_fields.specs.facts.Fields.{whole_content}
use Rattle.x509_fields.proofs.extension_list.listed_items.Goals as goal

pub returns : goal.returns
returns g c = λ v y a.
    let s = content_first 48 (items extension) v c.args.bytes.now y (c.fields.ensures v c.args.bytes.now y a).parts in
    let i = whole_content 48 s.content c.args.bytes.now c.of.result c.inside.result refl (lit< tt) s.bytes c.of.ensures.rest c.of.ensures.at c.inside.ensures in
    record {
      list = s.bytes ∙ ap (element 48) (sym i.0);
      at = i.1 ∙ ap header (sym i.0);
      items = moved_items extension v _ _ s.content _ c.args.bytes.now y s.inner.parts i.1 i.0;
    }
