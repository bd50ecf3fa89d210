-- What the fields of an algorithm identifier mean keeps the laws.
use Rattle.std.proofs.Common.{◌≡◌, lit<, ℕ, zero, suc, ◌+◌, ◌≤◌, Bool, true, false, cond, List, [], ◌∷◌, length, refl, ap, ◌∙◌, arith, Option, Some, None}
use Rattle.std.proofs.lemmas.Bool.Decides.{nat_tests}
use Rattle.x509_der.specs.Types.{Deviation}
use Rattle.x509_der.specs.Reading.{Cursor, Ready, RawTaken, Accepts}
use Rattle.x509_der.specs.reads.Cursor.{booked_none}
use Rattle.x509_der.specs.reads.PrimitiveContent.{raw_accepts}
use Rattle.x509_der.specs.reads.View.{viewed_accepts}
use Rattle.x509_der.specs.facts.Lists.{same_pair}
use Rattle.x509_der.specs.Element.{AreBytes, element, digits}
use Rattle.x509_der.specs.Types.deviation
use Rattle.x509_der.specs.Optional.{optional, brief_if}
use Rattle.x509_der.specs.RawElement.{IsRawBytes, raws}
use Rattle.x509_der.specs.laws.View.{some_one}
use Rattle.x509_der.specs.laws.RawElement.{raws_lawful, raws_element, raws_inner}
use Rattle.x509_der.specs.View.{IsSeen}
use Rattle.x509_der.specs.MarkOrder.{Deep}
use Rattle.x509_der.specs.laws.Meaning.{IsMeaning, Markable, seen_one, seen_lawful, seen_element}
use Rattle.x509_der.specs.Tally.{Tally, Mark}
use Rattle.x509_der.specs.Shape.{Lawful, IsElement}
use Rattle.x509_keys_parts.specs.RawAlgorithm.{RawAlgorithm, is_null, without_null, written_parameters, NotNull, RawIfThere, IsParameters, AnyParameters, element_meaning, parameters_meaning, parameters, Fields, inner, base, kinds_of, if_there, meaning, written_fields, IsRawAlgorithm, raw_meaning}

null_bytes : AreBytes (5 ∷ 0 ∷ [])
null_bytes zero = lit< tt
null_bytes (suc zero) = lit< tt
null_bytes (suc (suc k)) = lit< tt

null_raw : IsRawBytes (5 ∷ 0 ∷ [])
unfolding element digits
null_raw = (record { tag = 5; content = []; fits = refl; byte = lit< tt; bytes = refl }, null_bytes)

written_valid : (p : Option (List ℕ)) → RawIfThere p → IsRawBytes (written_parameters p)
written_valid None h = null_raw
written_valid (Some r) h = h

null_is : (r : List ℕ) → is_null r ≡ true → r ≡ 5 ∷ 0 ∷ []
null_is [] h = cc
null_is (a ∷ []) h = cc
null_is (a ∷ b ∷ []) h = grind (arith, nat_tests)
null_is (a ∷ b ∷ c ∷ r) h = cc

back_again : (p : Option (List ℕ)) → NotNull p → without_null (Some (written_parameters p)) ≡ p
back_again None h = refl
back_again (Some r) h = rw h refl

not_null_test : (r : List ℕ) (t : Bool) → is_null r ≡ t → NotNull (cond t None (Some r))
not_null_test r true e = tt
not_null_test r false e = e

pub without_null_is : (p : Option (List ℕ)) → NotNull (without_null p)
without_null_is None = tt
without_null_is (Some r) = not_null_test r (is_null r) refl

raw_test : (r : List ℕ) (t : Bool) → IsRawBytes r → RawIfThere (cond t None (Some r))
raw_test r true h = tt
raw_test r false h = h

written_test : (r : List ℕ) (t : Bool) → is_null r ≡ t → r ≡ written_parameters (cond t None (Some r))
written_test r true e = null_is r e
written_test r false e = refl

parameters_means : IsMeaning parameters_meaning raws
parameters_means = record {
  written = λ v d r. (ap (λ p. Some (p, [])) (back_again v d.not_null), written_valid v d.element, tt);
  stays = λ v d. written_valid v d.element;
  clean = λ b v e d r. written_test b (is_null b) refl ∙ ap written_parameters (some_one (without_null (Some b)) v [] [] e).0;
  kept = λ b v ks e d. rw (← (some_one (without_null (Some b)) v [] ks e).0) (record { element = raw_test b (is_null b) d; not_null = without_null_is (Some b) });
  read = λ b v ks e r. tt;
}

no_kind : (b : List ℕ) (v : Option (List ℕ)) (ks : List Deviation) → element_meaning b ≡ Some (v, ks) → length ks ≤ 1
no_kind b v ks e = omega (arith, ap length (some_one (without_null (Some b)) v [] ks e).1)

deep_none : (ms : List Mark) → ms ≡ [] → Deep ms
deep_none [] e = tt
deep_none (m ∷ ms) e = cc

raws_markable : Markable raws
raws_markable = record {
  deep = λ b p y a. (omega (arith, raws_lawful.cost b p y a, ap (λ (x : Tally). x.headers) a.tally), deep_none y.marks (ap (λ (x : Tally). x.marks) a.tally));
  spare = λ b p y a. omega (arith, ap (λ (x : Tally). x.headers) a.tally, ap (λ (x : Tally). length x.marks) a.tally);
  inner = raws_inner;
}

parameters_seen : IsSeen parameters_meaning raws
parameters_seen = seen_one parameters_meaning raws raws_markable parameters_means no_kind

pub parameters_lawful : Lawful parameters
parameters_lawful = seen_lawful parameters_meaning raws (raws_lawful, parameters_seen)

pub parameters_element : IsElement parameters
parameters_element = seen_element parameters_meaning raws raws_element parameters_means

-- an element was taken: it is the parameters
pub parameters_taken : (old new : Cursor) (p : List ℕ) → Ready old → AreBytes p → RawTaken old new p → new.headers ≡ old.headers + 1 → new.counts ≡ old.counts → new.at + length new.rest ≡ old.at + length old.rest → new.places ≡ old.places → Accepts parameters old new (without_null (Some p))
parameters_taken old new p r b t h c at places =
    viewed_accepts element_meaning written_parameters IsParameters AnyParameters raws raws_lawful parameters_seen.few old new new p (without_null (Some p)) [] r (raw_accepts old new p p r b t refl h c at places) refl (booked_none old new)

parameters_there : (p : Option (Option (List ℕ))) → (optional parameters).valid p → IsParameters (if_there p)
parameters_there None h = record { element = tt; not_null = tt }
parameters_there (Some p) h = h

clean_parameters : (p : Option (Option (List ℕ))) → kinds_of p ≡ [] → p ≡ Some (if_there p)
clean_parameters None e = cc
clean_parameters (Some p) e = refl

few_kinds : (p : Option (Option (List ℕ))) → length (kinds_of p) ≤ 1
few_kinds None = omega arith
few_kinds (Some p) = omega arith

abbrev of_fields : Fields → RawAlgorithm
of_fields b = record { algorithm = b.0; parameters = if_there b.1 }

pub written_fields_valid : (v : RawAlgorithm) → IsRawAlgorithm v → inner.valid (written_fields v)
written_fields_valid v h = (h.lawful, record { element = h.element; not_null = h.not_null })

pub raw_algorithm_means : IsMeaning raw_meaning base
raw_algorithm_means = record {
  written = λ v d r. (refl, written_fields_valid v d, (tt, tt));
  stays = written_fields_valid;
  clean = λ b v e d r.
      let k = some_one (of_fields b) v (kinds_of b.1) [] e in
      let p : b.1 ≡ Some v.parameters = clean_parameters b.1 k.1 ∙ ap (λ (x : RawAlgorithm). Some x.parameters) k.0 in
      let o : b.0 ≡ v.algorithm = ap (λ (x : RawAlgorithm). x.algorithm) k.0 in
      same_pair (λ (x : Fields). x.0) (λ x. x.1) (λ x y. (x, y)) (λ x. refl) b (written_fields v) o p;
  kept = λ b v ks e d.
      let k = (some_one (of_fields b) v (kinds_of b.1) ks e).0 in
      let h = parameters_there b.1 d.1 in
      rw (← k) (record { lawful = d.0; element = h.element; not_null = h.not_null });
  read = λ b v ks e r. tt;
}

-- at most one deviation
pub one_kind : (b : Fields) (v : RawAlgorithm) (ks : List Deviation) → meaning b ≡ Some (v, ks) → length ks ≤ 1
one_kind b v ks e = omega (arith, few_kinds b.1, ap length (some_one (of_fields b) v (kinds_of b.1) ks e).1)

-- what is said of parameters by whether they are there
pub raw_there : (o : Option (Option (List ℕ))) → brief_if {V = Option (List ℕ)} (λ p. tt {0}) o ≡ Some (tt {0}) → kinds_of o ≡ []
raw_there None e = absurd cc
raw_there (Some p) e = refl

pub raw_absent : (o : Option (Option (List ℕ))) → brief_if {V = Option (List ℕ)} (λ p. tt {0}) o ≡ None → kinds_of o ≡ deviation.RawParametersAbsent ∷ []
raw_absent None e = refl
raw_absent (Some p) e = absurd cc
