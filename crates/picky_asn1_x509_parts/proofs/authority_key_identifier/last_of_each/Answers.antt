use Rattle.std.proofs.Common.{ap, sym, ◌∙◌}
use Rattle.std.proofs.lemmas.List.{map-id}
use Rattle.std.proofs.lemmas.Iterator.Adapters.{YieldsList-from_vec}
use Rattle.std.proofs.lemmas.Iterator.Consumers.{YieldsList-end}
use Rattle.picky_asn1_x509_parts.specs.AuthorityKeyIdentifier.{authority_of}
use Rattle.picky_asn1_x509_parts.specs.facts.AuthorityKeyIdentifierFacts.{authority_push}
use Rattle.picky_asn1_x509_parts.proofs.authority_key_identifier.last_of_each.Goals as goal

pub fields-preserved : goal.fields-preserved
fields-preserved g c = rw (c.keep.ensures, c.fields.invariant) (sym (authority_push c.fields.yielded c.in-Some.field))

pub returns : goal.returns
returns g c =
    let i = c.into_iter-field-iterator in
    let p = i.ensures.into_iter_gives in
    let t = YieldsList-end (YieldsList-from_vec {s = i.result} c.args.fields.items p.0 (p.1 ∙ c.args.fields.ok.0)) c.fields.yielded c.fields.field-iterator c.fields.yielded_by c.next.result c.next.new.self c.in-None.is c.next.ensures.steps in
    c.fields.invariant ∙ ap (λ x. authority_of x) (sym (map-id c.fields.yielded) ∙ t.0)
