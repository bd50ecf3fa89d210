use Rattle.std.proofs.Common.{List, ℕ, length, sym, ◌∙◌, subst, zero-le, arith}
use Rattle.std.proofs.lemmas.Bool.{eqb-true}
use Rattle.std.proofs.lemmas.List.{nil_from_length, take_all}
use Rattle.x509_pem.specs.Part.{IsPart}
use Rattle.x509_pem.proofs.Filled.{part_ended, part_inner}
use Rattle.x509_pem.proofs.lines.line_part.Goals as goal

pub returns-in-Some-clause-part : goal.returns-in-Some-clause-part
returns-in-Some-clause-part c =
    part_ended c.args.chunk.now c.in-Some.at c.in-Some.ensures.0.high (λ k below. c.in-Some.ensures.0.before k zero-le below)
    c.in-Some.ensures.1

pub returns-in-None-clause-part : goal.returns-in-None-clause-part
returns-in-None-clause-part c =
    let P : List ℕ → Type 0 = λ l. IsPart c.is_empty.result l in
    subst P (sym (take_all (length c.args.chunk.now) c.args.chunk.now (omega arith)))
    (part_inner c.args.chunk.now c.is_empty.result
    (λ e. nil_from_length c.args.chunk.now (eqb-true _ 0 (sym c.is_empty.ensures ∙ e)))
    (λ k below. c.in-None.ensures k zero-le below))
