use Rattle.std.proofs.Common.{◌∙◌}
use Rattle.x509_der.specs.facts.Fields.{stands_whole}
use Rattle.picky_asn1_x509.specs.AuthorityKeyIdentifier.{authority_key_identifier}
use Rattle.x509_fields.specs.Spans.{FieldIn, all_of}
use Rattle.x509_flat.proofs.Fills.{from_start}
use Rattle.x509_flat_values.specs.Covered.{CoversIf, no_span}
use Rattle.x509_flat_values.proofs.Answering.{told, not_told}
use Rattle.x509_flat_values.proofs.key_identifiers.authority_key_identifier.Goals as goal

pub returns-in-Ok : goal.returns-in-Ok
returns-in-Ok g c =
    let h = c.in-Ok.ensures in
    let w = h.1.whole in
    let there : FieldIn authority_key_identifier h.0 (all_of c.args.value.now) c.args.value.now h.1.tally = record {
      slice = c.args.value.now;
      at = (stands_whole authority_key_identifier c.spellings_are_lawful.ensures.lawful h.0 c.args.value.now h.1.tally w.spelled).field;
      end = from_start c.args.value.now;
    } in
    told authority_key_identifier c.args.value.now (λ v at. CoversIf c.args.value.now at v.key_identifier) no_span c.done.result.fields c.key_identifier_within.result c.done.result.status h.0 h.1.tally c.done.ensures.status c.done.ensures.fields w
    (c.key_identifier_within.ensures h.0 h.1.tally there)

pub returns-in-Err : goal.returns-in-Err
returns-in-Err g c =
    not_told authority_key_identifier c.args.value.now (λ v at. CoversIf c.args.value.now at v.key_identifier) no_span c.refused.result.fields c.refused.result.status c.in-Err.error c.in-Err.ensures c.refused.ensures.status (c.refused.ensures.fields ∙ c.nowhere.ensures)
