use Rattle.std.proofs.Common.{refl, arith}
use Rattle.picky_asn1_x509.specs.Requests.{request_info, request_parts}
use Rattle.x509_make.specs.facts.Assembled.{signed_part}
use Rattle.x509_make.proofs.assemble.request.Goals as goal

pub returns-in-Ok-clause-read : goal.returns-in-Ok-clause-read
returns-in-Ok-clause-read g c = signed_part request_parts (λ f. record { certification_request_info = f.0; signature_algorithm = f.1.0; signature = f.1.1 }) (λ f. refl) request_info c.args.part.now c.args.algorithm.now c.args.signature.now _ (λ k. omega (arith, c.type_inv.signature k)) c.in-Ok.ensures.ok
