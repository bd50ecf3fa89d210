use Rattle.std.proofs.Common.{length, refl}
use Rattle.picky_asn1_x509.specs.Certificates.{certificate}
use Rattle.x509_values.specs.Certificates.{NameCarried}
use Rattle.x509_flat.proofs.Fills.{filled, not_filled}
use Rattle.x509_flat.proofs.values.issuer_attributes.Goals as goal

pub returns-in-Ok : goal.returns-in-Ok
returns-in-Ok g c =
    filled certificate c.args.bytes.now (NameCarried (λ v. v.tbs_certificate.issuer) c.args.bytes.now c.args.out.now c.issuer_attributes.new.out) c.args.out.now c.issuer_attributes.new.out c.front_of.result.status c.in-Ok.count c.front_of.result.size (length c.args.out.now)
    c.in-Ok.ensures c.front_of.ensures.size refl c.front_of.ensures.status

pub returns-in-Err : goal.returns-in-Err
returns-in-Err g c =
    not_filled certificate c.args.bytes.now (NameCarried (λ v. v.tbs_certificate.issuer) c.args.bytes.now c.args.out.now c.issuer_attributes.new.out) c.args.out.now c.issuer_attributes.new.out c.in-Err.error c.unsized_of.result.status c.unsized_of.result.size
    c.in-Err.ensures.0 c.in-Err.ensures.1 c.unsized_of.ensures.status c.unsized_of.ensures.size
