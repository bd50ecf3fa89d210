use Rattle.x509_der.specs.facts.ElementPlaces.{content_first}
use Rattle.x509_keys_parts.proofs.laws.aes_auth_enc_fields.Goals as goal

pub returns : goal.returns
returns g c = λ v string y a.
    let s = content_first 48 _ _ string y (c.fields.ensures v string y a).parts in
    let j = s.inner.parts in
    record { content = s.content; bytes = s.bytes; nonces = j.front; lengths = j.back; fields = j.bytes; nonce_at = j.first.field; icv_len_at = j.second.field }
