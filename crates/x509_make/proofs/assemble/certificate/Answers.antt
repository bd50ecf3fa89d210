use Rattle.std.proofs.Common.{refl, arith}
use Rattle.picky_asn1_x509.specs.Certificates.{certificate_parts}
use Rattle.picky_asn1_x509.specs.TbsCertificates.{tbs_certificate}
use Rattle.x509_make.specs.facts.Assembled.{signed_part}
use Rattle.x509_make.proofs.assemble.certificate.Goals as goal

pub returns-in-Ok-clause-read : goal.returns-in-Ok-clause-read
returns-in-Ok-clause-read g c = signed_part certificate_parts (λ f. record { tbs_certificate = f.0; signature_algorithm = f.1.0; signature_value = f.1.1 }) (λ f. refl) tbs_certificate c.args.part.now c.args.algorithm.now c.args.signature.now _ (λ k. omega (arith, c.type_inv.signature k)) c.in-Ok.ensures.ok
