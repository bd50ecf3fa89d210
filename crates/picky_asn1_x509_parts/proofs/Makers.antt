-- What is made of an identifier is made of its arcs.
use Rattle.std.specs.Prelude.{◌≡◌, ◌↔◌, ℕ, List, Bool, true, false, not, Contains, Result, Ok, Err, IfOk, IsOkAnd, IsTrue, MatchResult}
use Rattle.std.proofs.Common.{rules, subst}
use Rattle.picky_asn1_x509_parts.specs.Extensions.{ExtensionFields, made}
use Rattle.picky_asn1_x509_parts.specs.declared.extension_value.ExtensionValue.{ExtensionValue}

pub made_of : {A E : Type 0} (critical : Bool) (value : ExtensionValue A) (arcs : List ℕ) (id : Result (List ℕ) E) (result : Result (ExtensionFields A) E) → MatchResult id (λ i. IsOkAnd result (λ e. e ≡ made i critical value)) (λ e. result ≡ Err e) → IfOk id (λ i. i ≡ arcs) → IfOk result (λ e. e ≡ made arcs critical value)
made_of critical value arcs (Ok i) result m h = search (rules)
made_of critical value arcs (Err e) result m h = search (rules)

absent : (found : Bool) (list : List (List ℕ)) (item : List ℕ) → (IsTrue found ↔ Contains list item) → IsTrue (not found) ↔ ¬ Contains list item
absent true list item h = search (rules)
absent false list item h = search (rules)

-- What wasn't found isn't contained, by whatever name the item has.
pub is_absent : (found : Bool) (list : List (List ℕ)) (item other : List ℕ) → item ≡ other → (IsTrue found ↔ Contains list item) → IsTrue (not found) ↔ ¬ Contains list other
is_absent found list item other e h = subst (λ x. IsTrue (not found) ↔ ¬ Contains list x) e (absent found list item h)
