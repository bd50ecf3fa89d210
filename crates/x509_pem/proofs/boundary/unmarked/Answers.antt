use Rattle.std.proofs.Common.{◌++◌, refl, sym, ◌∙◌, ap, inl, inr}
use Rattle.x509_pem.proofs.boundary.unmarked.Goals as goal

pub returns-in-None : goal.returns-in-None
returns-in-None c = inr (λ rest is. c.in-None.ensures rest (is ∙ ap (λ m. m ++ rest) (sym c.as_slice.ensures)), refl)

pub returns-in-Some : goal.returns-in-Some
returns-in-Some c = inl (c.in-Some.rest.now, c.in-Some.ensures ∙ ap (λ m. m ++ c.in-Some.rest.now) c.as_slice.ensures, c.trimmed.ensures)
