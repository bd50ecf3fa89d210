use Rattle.std.proofs.Common.{ℕ, List, Some, sym, ap, subst}
use Rattle.x509_der.specs.ObjectIdentifier.{IsOid}
use Rattle.x509_flat_values.proofs.KeyWalks.{parameters_are, curve_absent, curve_other, curve_known, curve_there}
use Rattle.x509_flat_values.proofs.keys.curve_within.Goals as goal

pub returns-in_default : goal.returns-in_default
returns-in_default g c = λ kind v y string here s. curve_absent v string c.args.parameters.rest c.no_curve.result (parameters_are kind v c.args.parameters.rest y s) c.in_default.ensures.takes.0 c.no_curve.ensures

pub returns-then-first-ne-OBJECT_IDENTIFIER_TAG : goal.returns-then-first-ne-OBJECT_IDENTIFIER_TAG
returns-then-first-ne-OBJECT_IDENTIFIER_TAG g c = λ kind v y string here s.
    curve_other v string c.args.parameters c.next.new.self c.in-Some.first c.no_curve-then-first-ne-OBJECT_IDENTIFIER_TAG.result (parameters_are kind v c.args.parameters.rest y s) c.in-Some.ensures.takes c.if-first-ne-OBJECT_IDENTIFIER_TAG.true c.no_curve-then-first-ne-OBJECT_IDENTIFIER_TAG.ensures

pub returns-in_default-of : goal.returns-in_default-of
returns-in_default-of g c = λ kind v y string here s.
    absurd (curve_known v c.args.parameters c.next.new.self c.in-Some.first (parameters_are kind v c.args.parameters.rest y s) c.in-Some.ensures.takes c.if-first-ne-OBJECT_IDENTIFIER_TAG.false
    (λ arcs h. c.in_default-of.ensures arcs (let P : List ℕ → Type 0 = λ x. IsOid arcs x in subst P (sym c.bytes.ensures) h)))

pub returns : goal.returns
returns g c = λ kind v y string here s.
    let P : List ℕ → Type 0 = λ x. IsOid c.in-Some-of.curve x in
    curve_there v string c.args.parameters c.next.new.self c.in-Some.first _ c.in-Some-of.curve here (parameters_are kind v c.args.parameters.rest y s) c.in-Some.ensures.takes c.if-first-ne-OBJECT_IDENTIFIER_TAG.false
    (subst P c.bytes.ensures c.in-Some-of.ensures) c.span.ensures (ap Some c.curve_size.ensures)
