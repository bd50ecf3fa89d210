-- Where the content of an element stands that is the whole string.
use Rattle.std.proofs.Common.{◌≡◌, ℕ, ◌+◌, List, [], ◌∷◌, ◌++◌, length, ap, subst, ◌∙◌, arith}
use Rattle.x509_der_parts.specs.Element.{element, header}
use Rattle.x509_der_parts.specs.Tally.{Tally}
use Rattle.x509_der_parts.specs.Shape.{Shape}
use Rattle.x509_der_parts.specs.Fields.{Stands, ContentBehind, ContentFirst}
use Rattle.x509_der_parts.specs.Tagged.{ContentAt}
use Rattle.x509_der_parts.specs.Prefixed.{prefixed}

pub content_first : {V : Type 0} (t : ℕ) (s : Shape V) (v : V) (string : List ℕ) (whole : Tally) → ContentAt t s v 0 string string whole → ContentFirst t s v string whole
content_first t s v string whole c =
    let z : 0 + header c.content ≡ header c.content = omega arith in
    let P : ℕ → Type 0 = λ n. Stands s v n c.content string whole in
    record { content = c.content; bytes = c.bytes; inner = subst P z c.inner }

pub content_behind : {V : Type 0} (t b : ℕ) (s : Shape V) (v : V) (string : List ℕ) (whole : Tally) → ContentAt t (prefixed b s) v 0 string string whole → ContentBehind t b s v string whole
content_behind t b s v string whole c =
    let j = c.inner.parts in
    let f : j.front ≡ b ∷ [] = j.first.parts in
    let e : c.content ≡ b ∷ j.back = j.bytes ∙ ap (λ x. x ++ j.back) f in
    let z : (0 + header c.content) + length j.front ≡ header (b ∷ j.back) + 1 = omega (arith, ap header e, ap length f) in
    let P : ℕ → Type 0 = λ n. Stands s v n j.back string whole in
    record { content = j.back; bytes = c.bytes ∙ ap (element t) e; inner = subst P z j.second }
