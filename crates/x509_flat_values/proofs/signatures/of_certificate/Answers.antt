use Rattle.std.proofs.Common.{◌∙◌}
use Rattle.picky_asn1_x509.specs.Certificates.{certificate}
use Rattle.x509_flat_values.specs.Signatures.{SignatureTold, no_signature}
use Rattle.x509_flat_values.proofs.Answering.{told, not_told}
use Rattle.x509_flat_values.proofs.signatures.of_certificate.Goals as goal

pub returns-in-Ok : goal.returns-in-Ok
returns-in-Ok g c =
    let h = c.in-Ok.ensures.ok in
    told certificate c.args.bytes.now (λ v at. SignatureTold c.args.bytes.now v.signature_algorithm at) no_signature c.done.result.fields c.signature_within.result c.done.result.status h.value h.tally c.done.ensures.status c.done.ensures.fields h.whole
    (c.signature_within.ensures h.value.signature_algorithm h.tally h.stand.signature_algorithm)

pub returns-in-Err : goal.returns-in-Err
returns-in-Err g c =
    not_told certificate c.args.bytes.now (λ v at. SignatureTold c.args.bytes.now v.signature_algorithm at) no_signature c.refused.result.fields c.refused.result.status c.in-Err.error c.in-Err.ensures.err c.refused.ensures.status (c.refused.ensures.fields ∙ c.none.ensures)
