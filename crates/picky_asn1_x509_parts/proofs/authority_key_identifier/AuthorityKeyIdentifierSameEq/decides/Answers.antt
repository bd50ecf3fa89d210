use Rattle.std.proofs.Common.{refl}
use Rattle.picky_asn1_x509_parts.specs.AuthorityKeyIdentifier.{KeyAuthority}
use Rattle.x509_der.specs.facts.SameEq.{both_decide, made_decide}
use Rattle.picky_asn1_x509_parts.proofs.authority_key_identifier.AuthorityKeyIdentifierSameEq.decides.Goals as goal

pub returns : goal.returns
returns g c =
    made_decide (λ (v : KeyAuthority g.row.A.Denot). (v.key_identifier, (v.issuer, v.serial_number)))
    (λ f. record { key_identifier = f.0; issuer = f.1.0; serial_number = f.1.1 }) (λ v. refl)
    (both_decide c.decides.ensures (both_decide c.decides-2.ensures c.decides-3.ensures))
