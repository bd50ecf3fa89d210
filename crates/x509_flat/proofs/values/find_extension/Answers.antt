use Rattle.std.proofs.Common.{◌∙◌}
use Rattle.picky_asn1_x509.specs.Certificates.{certificate}
use Rattle.x509_values.specs.Certificates.{ExtensionCarried}
use Rattle.x509_flat.specs.Spans.{flat_span_if}
use Rattle.x509_flat.proofs.Fills.{told, not_told}
use Rattle.x509_flat.proofs.values.find_extension.Goals as goal

pub returns-in-Ok : goal.returns-in-Ok
returns-in-Ok g c =
    told certificate c.args.bytes.now flat_span_if (ExtensionCarried _ c.args.identifier.now c.args.bytes.now) c.done.result.status c.done.result.fields c.in-Ok.found
    c.done.ensures.status c.in-Ok.ensures.ok (c.done.ensures.fields ∙ c.of_optional.ensures)

pub returns-in-Err : goal.returns-in-Err
returns-in-Err g c =
    not_told certificate c.args.bytes.now flat_span_if (ExtensionCarried _ c.args.identifier.now c.args.bytes.now) c.in-Err.error c.refused.result.status c.refused.result.fields
    c.in-Err.ensures.err c.refused.ensures.status c.refused.ensures.fields
