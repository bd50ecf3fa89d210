-- What the fields of an extension mean keeps the laws.
use Rattle.std.proofs.Common.{◌≡◌, refl, ap, ◌∙◌, ℕ, ◌≤◌, ◌||◌, eqb, Bool, true, false, List, [], length, Option, Some, None, arith}
use Rattle.std.proofs.lemmas.Bool.Decides.{nat_tests}
use Rattle.x509_der.specs.Boolean.{booleans}
use Rattle.x509_der.specs.Optional.{optional, brief_if}
use Rattle.x509_der.specs.Tagged.{tagged}
use Rattle.x509_der.specs.Types.{Deviation}
use Rattle.x509_der.specs.facts.Lists.{same_pair}
use Rattle.x509_der.specs.laws.Meaning.{IsMeaning}
use Rattle.x509_der.specs.laws.View.{some_one}
use Rattle.x509_outline_parts.specs.Extensions.{Fields, extension_base, critical_of, written_critical, critical_kinds, extension_of, extension_means, extension_back, extension_meaning}
use Rattle.x509_outline_parts.specs.declared.extension_outline.ExtensionOutline.{ExtensionOutline}

-- octets are told from a truth value by their tag
pub octets_apart : (c : ℕ) → eqb c 4 ≡ true → (false || eqb c 1) ≡ false
octets_apart c h = grind (arith, nat_tests)

-- whether an extension is critical, there and back
same_critical : (b : Bool) → critical_of (written_critical b) ≡ b
same_critical false = refl
same_critical true = refl

no_critical_kinds : (b : Bool) → critical_kinds (written_critical b) ≡ []
no_critical_kinds false = refl
no_critical_kinds true = refl

clean_critical : (o : Option Bool) → critical_kinds o ≡ [] → o ≡ written_critical (critical_of o)
clean_critical None e = refl
clean_critical (Some true) e = refl
clean_critical (Some false) e = cc

few_critical : (o : Option Bool) → length (critical_kinds o) ≤ 1
few_critical None = omega arith
few_critical (Some true) = omega arith
few_critical (Some false) = omega arith

valid_critical : (b : Bool) → (optional (tagged 1 booleans)).valid (written_critical b)
valid_critical false = tt
valid_critical true = tt

readable_critical : (b : Bool) → (optional (tagged 1 booleans)).readable (written_critical b)
readable_critical false = tt
readable_critical true = tt

pub means_one : {A : Type 0} (f : Fields) (v : ExtensionOutline A) (ks : List Deviation) → extension_means f ≡ Some (v, ks) → (extension_of f ≡ v) × (critical_kinds f.1.0 ≡ ks)
means_one f v ks e = some_one (extension_of f) v (critical_kinds f.1.0) ks e

pub extension_is : {A : Type 0} → IsMeaning (extension_meaning {A = A}) extension_base
extension_is {A} = record {
  written = λ v d r. (
    ap (λ x. Some (record { extn_id = v.extn_id; critical = x; extn_value = v.extn_value }, critical_kinds (written_critical v.critical))) (same_critical v.critical) ∙ ap (λ x. Some (v, x)) (no_critical_kinds v.critical),
    d,
    r,
  );
  stays = λ v d. d;
  clean = λ f v e d r.
      let m = means_one f v [] e in
      let n : f.0 ≡ v.extn_id = ap (λ (x : ExtensionOutline A). x.extn_id) m.0 in
      let c : f.1.0 ≡ written_critical v.critical = clean_critical f.1.0 m.1 ∙ ap (λ (x : ExtensionOutline A). written_critical x.critical) m.0 in
      let o : f.1.1 ≡ v.extn_value = ap (λ (x : ExtensionOutline A). x.extn_value) m.0 in
      let b : f.1 ≡ (extension_back v).1 = same_pair (λ (x : Option Bool × List ℕ). x.0) (λ x. x.1) (λ x y. (x, y)) (λ x. refl) f.1 (extension_back v).1 c o in
      same_pair (λ (x : Fields). x.0) (λ x. x.1) (λ x y. (x, y)) (λ x. refl) f (extension_back v) n b;
  kept = λ f v ks e d. rw (← (means_one f v ks e).0) (d.0, (valid_critical (critical_of f.1.0), d.1.1));
  read = λ f v ks e r. rw (← (means_one f v ks e).0) (r.0, (readable_critical (critical_of f.1.0), r.1.1));
}

-- at most one deviation
pub extension_one : {A : Type 0} (f : Fields) (v : ExtensionOutline A) (ks : List Deviation) → extension_means f ≡ Some (v, ks) → length ks ≤ 1
extension_one f v ks e = omega (arith, few_critical f.1.0, ap length (means_one f v ks e).1)

-- what is kept of a criticality is the criticality
pub critical_kept : (o : Option Bool) → brief_if (λ b. b) o ≡ o
critical_kept None = refl
critical_kept (Some b) = refl
