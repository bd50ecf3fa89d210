use Rattle.std.proofs.Common.{sym, ◌∙◌}
use Rattle.std.specs.Cmp.Lexicographic.{bytes_decides}
use Rattle.x509_der.specs.facts.Named.{named_next}
use Rattle.x509_names.specs.Attributes.{arcs_of, attrs}
use Rattle.x509_names.specs.declared.name_attr.NameAttr.TheVariants as attr
use Rattle.x509_names.proofs.name_attr.attr_of.Goals as goal

pub loop-attr-preserved : goal.loop-attr-preserved
loop-attr-preserved c =
    let missed = named_next arcs_of attrs c.loop-attr.attr-index attr.CommonName c.args.identifier.now c.loop-attr-test.true (λ e. c.if-is_content.ensures ∙ (bytes_decides _ _).1 (e ∙ sym c.last_arc.ensures.content)) in
    sym missed ∙ c.loop-attr.invariant
