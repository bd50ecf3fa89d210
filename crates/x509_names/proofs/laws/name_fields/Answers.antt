use Rattle.std.proofs.Common.{◌∷◌, ◌++◌}
use Rattle.x509_der.specs.facts.ElementPlaces.{content_first}
use Rattle.x509_der.specs.facts.ItemPlaces.{item_at}
use Rattle.x509_names.specs.Attributes.{attribute}
use Rattle.x509_names.specs.Names.{relative_name}
use Rattle.x509_names.proofs.laws.name_fields.Goals as goal

pub returns-clause-sets : goal.returns-clause-sets
returns-clause-sets g c = λ done more set string y a.
    let s = content_first 48 _ _ string y (c.fields.ensures _ string y a).parts in
    record { content = s.content; bytes = s.bytes; set_at = item_at relative_name done more set _ s.content string y s.inner.parts }

pub returns-clause-attributes : goal.returns-clause-attributes
returns-clause-attributes g c = λ done more before after v string y a.
    let s = content_first 48 _ _ string y (c.fields.ensures _ string y a).parts in
    let set = item_at relative_name done more (before ++ v ∷ after) _ s.content string y s.inner.parts in
    let e = set.here.parts in
    record {
      content = s.content;
      bytes = s.bytes;
      set_at = set;
      attributes = e.content;
      set_bytes = e.bytes;
      attribute_at = item_at attribute before after v _ e.content string y e.inner.parts;
    }
