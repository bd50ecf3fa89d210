-- An element with another tag around the same content.
use Rattle.std.proofs.Common.{ℕ, List, [], ◌++◌, refl, ap}
use Rattle.x509_der_parts.specs.Element.{element}
use Rattle.x509_der_parts.specs.Shape.{Shape}
use Rattle.x509_der_parts.specs.Tagged.{IsTagged}
use Rattle.x509_der_parts.specs.Tally.{Tally}
use Rattle.x509_der_parts.specs.facts.Element.{element_one}

pub retagged : {V : Type 0} (s : Shape V) (t u : ℕ) (v : V) (content : List ℕ) (y : Tally) → IsTagged t s v (element t content) y → IsTagged u s v (element u content) y
retagged s t u v content y a =
    let e = (element_one t t content a.content [] [] (ap (λ x. x ++ []) a.bytes)).content in
    record { content = content; part = a.part; spelled = rw e a.spelled; bytes = refl; tally = rw e a.tally }
