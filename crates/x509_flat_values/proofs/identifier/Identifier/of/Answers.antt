use Rattle.std.proofs.Common.{ℕ, List, sym, ap, ◌∙◌, subst}
use Rattle.x509_der.specs.ObjectIdentifier.{IsOid, arcs_spelled}
use Rattle.x509_der.specs.facts.OidContent.{content_spells}
use Rattle.x509_flat_values.proofs.identifier.Identifier.of.Goals as goal

spelled : (arcs content : List ℕ) → IsOid arcs content → IsOid (arcs_spelled content) content
spelled arcs content h =
    let P : List ℕ → Type 0 = λ x. IsOid x content in
    subst P (sym (ap arcs_spelled h.1 ∙ content_spells arcs h.0)) h

pub invariant_of-result : goal.invariant_of-result
invariant_of-result c = spelled c.in-Some.field-0 c.args.content.now c.in-Some.ensures

pub returns-in-Some : goal.returns-in-Some
returns-in-Some c = spelled c.in-Some.field-0 c.args.content.now c.in-Some.ensures
