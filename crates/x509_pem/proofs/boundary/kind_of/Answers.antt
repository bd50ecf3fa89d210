use Rattle.std.proofs.Common.{List, ℕ, subst}
use Rattle.x509_pem.specs.Line.{IsBoundary}
use Rattle.x509_pem.proofs.boundary.kind_of.Goals as goal

pub returns-in-Some : goal.returns-in-Some
returns-in-Some c =
    let P : List ℕ → Type 0 = λ f. IsBoundary f c.in-Some.label.now c.unmarked-inner.result.now in
    (c.unmarked-inner.result.now, c.unmarked-inner.ensures, subst P c.as_slice.ensures c.in-Some.ensures)
