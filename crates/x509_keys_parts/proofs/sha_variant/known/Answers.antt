use Rattle.std.proofs.Common.{sym, ◌∙◌}
use Rattle.x509_der.specs.facts.Named.{named_next}
use Rattle.x509_keys_parts.specs.ShaVariants.{sha_arcs, shas}
use Rattle.x509_keys_parts.specs.declared.sha_variant.ShaVariant.TheVariants as sha
use Rattle.x509_keys_parts.proofs.sha_variant.known.Goals as goal

pub loop-sha-preserved : goal.loop-sha-preserved
loop-sha-preserved g c =
    let missed = named_next sha_arcs shas c.loop-sha.sha-index sha.MD5 c.args.identifier.now c.loop-sha-test.true (λ e. c.if-is_arcs.ensures.1 (e ∙ sym c.arcs.ensures)) in
    sym missed ∙ c.loop-sha.invariant
