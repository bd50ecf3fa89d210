use Rattle.std.proofs.Common.{◌≡◌, ℕ, ◌+◌, ◌++◌, List, [], length, map, refl, sym, subst, ap, ◌∙◌, arith, Option, Some, None}
use Rattle.x509_der.specs.Element.{element, header}
use Rattle.x509_der.specs.Types.{Deviation}
use Rattle.x509_der.specs.Tally.{Tally, Mark, marked, lying, moved}
use Rattle.x509_der.specs.facts.Tally.{marked_none}
use Rattle.x509_der.specs.Parts.{IsPart}
use Rattle.x509_der.specs.Tagged.{tagged}
use Rattle.x509_der.specs.Optional.{OptionalAt}
use Rattle.x509_der.specs.RawElement.{Raw}
use Rattle.x509_der.specs.ObjectIdentifier.{oids}
use Rattle.x509_der.specs.Fields.{FieldAt}
use Rattle.x509_der.specs.laws.View.{some_one}
use Rattle.x509_keys_parts.specs.RawAlgorithm.{RawAlgorithm, without_null, element_meaning, parameters, if_there, kinds_of, ParametersAt}
use Rattle.x509_keys_parts.proofs.laws.raw_algorithm_fields.Goals as goal

-- the element that the parameters are
pub record ElementAt (p : Option (Option (List ℕ))) (n : ℕ) (slice string : List ℕ) (y : Tally) : Type 0 where
  pub parameters : Option (List ℕ)
  pub means : without_null parameters ≡ if_there p
  pub at : ParametersAt parameters n slice string y

no_marks_in : (n m : ℕ) (whole : List Mark) (part : Tally) → part.marks ≡ [] → lying n m whole ≡ map (moved n) part.marks → lying n m whole ≡ []
no_marks_in n m whole part e a = a ∙ ap (map (moved n)) e

element_at : (r : List ℕ) (p : Option (List ℕ)) (ks : List Deviation) (x z : Tally) (n : ℕ) (slice string : List ℕ) (y : Tally) → Raw r slice x → element_meaning r ≡ Some (p, ks) → z ≡ marked ks (length slice) x → IsPart string y n slice z → ElementAt (Some p) n slice string y
element_at r p ks x z n slice string y a m t i =
    let k = some_one (without_null (Some r)) p [] ks m in
    let w : z ≡ x = t ∙ ap (λ l. marked l (length slice) x) (sym k.1) ∙ ap (marked [] (length slice)) a.tally ∙ marked_none (length slice) 1 ∙ sym a.tally in
    let j : IsPart string y n slice x = subst (IsPart string y n slice) w i in
    let e = no_marks_in n (n + length slice) y.marks x (ap (λ (q : Tally). q.marks) a.tally) j.marks in
    record { parameters = Some r; means = k.0; at = record { tally = x; spelled = a; part = j; strict = (λ h. e, λ h. a.bytes) } }

element_here : (p : Option (Option (List ℕ))) (n : ℕ) (slice string : List ℕ) (y : Tally) → OptionalAt parameters p n slice string y → ElementAt p n slice string y
element_here None n slice string y o = record { parameters = None; means = refl; at = o }
element_here (Some p) n slice string y o =
    let f = o.field in
    let s = f.spelled in
    element_at s.base p s.kinds s.part f.tally n slice string y s.spelled s.means s.tally f.part

pub returns : goal.returns
returns g c = λ v string y a.
    let b = (c.fields.ensures v string y a).parts in
    let s = b.parts in
    let j = s.inner.parts in
    let k = some_one (record { algorithm = b.base.0; parameters = if_there b.base.1 }) v (kinds_of b.base.1) b.kinds b.means in
    let z : 0 + header s.content ≡ header (j.front ++ j.back) = omega (arith, ap header j.bytes) in
    let e = element_here b.base.1 _ j.back string y j.second.parts in
    let P : ℕ → Type 0 = λ n. FieldAt (tagged 6 oids) b.base.0 n j.front string y in
    let Q : List ℕ → Type 0 = λ o. FieldAt (tagged 6 oids) o (header (j.front ++ j.back)) j.front string y in
    let R : ℕ → Type 0 = λ n. ParametersAt e.parameters (n + length j.front) j.back string y in
    record {
      parameters = e.parameters;
      means = e.means ∙ ap (λ (x : RawAlgorithm). x.parameters) k.0;
      front = j.front;
      back = j.back;
      bytes = s.bytes ∙ ap (element 48) j.bytes;
      algorithm_at = subst Q (ap (λ (x : RawAlgorithm). x.algorithm) k.0) (subst P z j.first.field);
      parameters_at = subst R z e.at;
    }
