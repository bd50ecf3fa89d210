use Rattle.std.proofs.lemmas.Result.{err_from_is_err_and}
use Rattle.picky_asn1_x509_parts.specs.facts.ExtensionFacts.{read_fitting}
use Rattle.picky_asn1_x509_parts.proofs.matching_fields.MatchingFieldsContent.read_content.Goals as goal

pub invariant_of-result : goal.invariant_of-result
invariant_of-result g c = read_fitting c.args.reader.now c.read.new.reader c.in_ok-fields.fields c.in_ok-fields.ensures

pub returns-in_err-fields : goal.returns-in_err-fields
returns-in_err-fields g c =
    let p = err_from_is_err_and c.from_residual.result c.from_residual.ensures.1 in
    rw (p.1, p.2) c.in_err-fields.ensures
