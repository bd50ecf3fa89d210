use Rattle.std.proofs.Common.{◌≡◌, refl}
use Rattle.picky_asn1_x509_parts.proofs.authority_key_identifier.AuthorityKeyIdentifierViewFields.meaning.Goals as goal

pub returns-clause-meaning : goal.returns-clause-meaning
returns-clause-meaning g c =
    let e : c.fields-2.inside.0.0.0.items ≡ c.args.parts = cc (c.fields.view_is, c.fields-2.view_is, c.into_inner.ensures) in
    rw (c.last_of_each.ensures, c.of-found.ensures, c.disorder.ensures, c.as_slice.ensures.value, e) refl
