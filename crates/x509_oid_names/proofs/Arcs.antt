-- The last arc, and those before it.
use Rattle.std.proofs.Common.{◌≡◌, ℕ, List, [], ◌∷◌, ◌++◌, Option, sym, ap, ◌∙◌, arith, length}
use Rattle.std.proofs.lemmas.List.{same_from_push, length_push}
use Rattle.x509_oid_names.specs.Names.{IsNameOf, name_by}

-- the name by the two that the arcs are of
pub named : (arcs front : List ℕ) (last : ℕ) (name : Option (List ℕ)) → arcs ≡ front ++ (last ∷ []) → name ≡ name_by front last → IsNameOf arcs name
named arcs front last name parts e = record {
  without = λ none. absurd (omega (arith, ap length none, ap length parts, length_push front last));
  by = λ f l other.
      let same = same_from_push front f last l (sym parts ∙ other) in
      e ∙ ap (λ x. name_by x last) same.0 ∙ ap (λ x. name_by f x) same.1;
}
