use Rattle.std.proofs.Common.{List, ℕ, arith, subst}
use Rattle.x509_pem.specs.Line.{IsBegin}
use Rattle.x509_pem.proofs.InText.{around, label_end, label_there}
use Rattle.x509_pem.proofs.in_text.label_in.Goals as goal

pub overflow_sub-end : goal.overflow_sub-end
overflow_sub-end c =
    let line = c.args.line.now in
    let label = c.in-Begin.label.now in
    let a = around line c.trimmed.result.now label c.trimmed.ensures c.in-Begin.ensures in
    let back = c.back_start-end.ensures in
    let e = label_end line label a c.back_start-end.result back.bound back.white back.other in
    omega (arith, e)

pub overflow_sub-result : goal.overflow_sub-result
overflow_sub-result c =
    let line = c.args.line.now in
    let label = c.in-Begin.label.now in
    let a = around line c.trimmed.result.now label c.trimmed.ensures c.in-Begin.ensures in
    let back = c.back_start-end.ensures in
    let e = label_end line label a c.back_start-end.result back.bound back.white back.other in
    omega (arith, e)

pub returns-in-Begin-clause-begins : goal.returns-in-Begin-clause-begins
returns-in-Begin-clause-begins c =
    let line = c.args.line.now in
    let label = c.in-Begin.label.now in
    let a = around line c.trimmed.result.now label c.trimmed.ensures c.in-Begin.ensures in
    let back = c.back_start-end.ensures in
    let e = label_end line label a c.back_start-end.result back.bound back.white back.other in
    let P : List ℕ → Type 0 = λ l. IsBegin l c.trimmed.result.now in (
      c.trimmed.result.now,
      c.trimmed.ensures,
      subst P (label_there line label a _ _ (omega (arith, e)) (omega (arith, e))) c.in-Begin.ensures,
    )
