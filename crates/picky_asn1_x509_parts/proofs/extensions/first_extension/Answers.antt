use Rattle.std.proofs.Common.{sym, ◌∙◌}
use Rattle.picky_asn1_x509_parts.specs.facts.FirstExtensions.{found_here, found_later, found_nowhere}
use Rattle.picky_asn1_x509_parts.proofs.extensions.first_extension.Goals as goal

pub returns-then-is_identified : goal.returns-then-is_identified
returns-then-is_identified g c =
    let i = c.loop-extension.extension-index in
    sym c.loop-extension.invariant ∙ found_here c.args.arcs.now c.args.extensions.now i c.extension-item.result c.loop-extension-test.true c.extension-item.is (sym c.is_identified.ensures ∙ c.if-is_identified.true)

pub loop-extension-preserved : goal.loop-extension-preserved
loop-extension-preserved g c =
    let i = c.loop-extension.extension-index in
    sym (found_later c.args.arcs.now c.args.extensions.now i c.extension-item.result c.loop-extension-test.true c.extension-item.is (sym c.is_identified.ensures ∙ c.if-is_identified.false)) ∙ c.loop-extension.invariant

pub returns : goal.returns
returns g c = sym c.loop-extension.invariant ∙ found_nowhere c.args.arcs.now c.args.extensions.now c.loop-extension.extension-index c.loop-extension-test.false
