use Rattle.std.proofs.Common.{arith}
use Rattle.x509_values.specs.facts.Elements.{shorter}
use Rattle.x509_flat_values.proofs.LastFields.{all_left, listed, one_later, told}
use Rattle.x509_flat_values.proofs.key_identifiers.key_identifier_within.Goals as goal

pub fields-init : goal.fields-init
fields-init g c = λ parts y string within items. all_left string parts y _ _ within items c.nowhere-last.ensures

pub fields-preserved : goal.fields-preserved
fields-preserved g c = λ parts y string within items.
    one_later string parts c.fields.fields c.next.new.self c.in-Some.field c.fields.last c.later-last.result (c.fields.invariant parts y string within items) c.in-Some.ensures.takes c.later-last.ensures.here c.later-last.ensures.other

pub fields-smaller : goal.fields-smaller
fields-smaller g c = omega (arith, shorter c.fields.fields c.next.new.self c.in-Some.field c.in-Some.ensures.takes)

pub returns : goal.returns
returns g c = λ v whole f.
    let l = listed c.args.input.now c.args.span v whole f c.over-list.result c.take.new.self c.take.result c.over-list.ensures c.take.ensures in
    told c.args.input.now v c.take.result.inside c.fields.fields c.fields.last l (c.fields.invariant l.parts l.tally c.args.input.now l.within l.items) c.in_default.ensures.takes.0
