use Rattle.x509_der.specs.facts.ElementPlaces.{content_first}
use Rattle.x509_outline_parts.proofs.laws.name_outline_fields.Goals as goal

pub returns : goal.returns
returns g c = λ sets string y a.
    let s = content_first 48 _ _ string y (c.fields.ensures sets string y a).parts in
    record { content = s.content; bytes = s.bytes; sets_at = s.inner.parts }
