-- What the fields of a private key info mean keeps the laws.
use Rattle.std.specs.Prelude.{◌&&◌, ◌++◌}
use Rattle.std.proofs.Common.{◌≡◌, ◌∙◌, refl, ap, ℕ, ◌≤◌, ◌||◌, eqb, true, false, List, [], ◌∷◌, length, Option, Some, None, arith}
use Rattle.x509_der.specs.Types.deviation
use Rattle.x509_der.specs.Optional.{brief_if}
use Rattle.x509_der.specs.Types.{Deviation}
use Rattle.x509_der.specs.Element.{element, is_tag}
use Rattle.x509_der.specs.SmallInteger.{small_integer_content}
use Rattle.x509_der.specs.Optional.{optional_strict}
use Rattle.x509_der.specs.laws.Meaning.{IsMeaning}
use Rattle.x509_der.specs.facts.Alternatives.{byte_apart}
use Rattle.x509_der.specs.facts.Lists.{same_append}
use Rattle.x509_keys_parts.specs.AlgorithmIdentifier.{written_fields}
use Rattle.x509_keys_parts.specs.facts.AlgorithmIdentifier.{algorithm_agrees}
use Rattle.x509_keys.specs.declared.private_key_info.PrivateKeyInfo.{PrivateKeyInfo}
use Rattle.x509_keys_parts.specs.KeyKinds.{key_kind}
use Rattle.x509_keys.specs.PrivateKeyInfos.{InfoFields, info_public_key, info_base, info_of, info_back, is_version, is_skipped, skipped_kinds, info_means, info_meaning, info_bytes, private_key_info}
use Rattle.x509_keys.specs.facts.PrivateKeyValues.{private_agrees}
use Rattle.x509_keys.specs.facts.ReadIf.{was_read}

-- the tag of a public key is none that is skipped
pub public_key_apart : (c : ℕ) → eqb c 161 ≡ true → (false || (is_tag c && is_skipped c)) ≡ false
public_key_apart c h = byte_apart 161 (λ x. false || (is_tag x && is_skipped x)) refl c h

none_skipped : (o : Option (List ℕ)) → skipped_kinds o ≡ [] → o ≡ None
none_skipped None e = refl
none_skipped (Some x) e = cc

-- what is kept of an element that is skipped tells its deviation
pub skipped_there : (o : Option (List ℕ)) → brief_if {B = Unit {0}} (λ e. tt) o ≡ Some tt → skipped_kinds o ≡ deviation.SkippedKeyElement ∷ []
skipped_there None e = cc
skipped_there (Some x) e = refl

pub nothing_skipped : (o : Option (List ℕ)) → brief_if {B = Unit {0}} (λ e. tt) o ≡ None → skipped_kinds o ≡ []
nothing_skipped None e = refl
nothing_skipped (Some x) e = cc

few_skipped : (o : Option (List ℕ)) → length (skipped_kinds o) ≤ 1
few_skipped None = omega arith
few_skipped (Some x) = omega arith

pub means_info : {A : Type 0} (f : InfoFields A) (v : PrivateKeyInfo A) (ks : List Deviation) → info_means f ≡ Some (v, ks) → (is_version f.0 ≡ true) × ((info_of f ≡ v) × (skipped_kinds f.1.1.0 ≡ ks))
means_info f v ks e = was_read (is_version f.0) (info_of f) v (skipped_kinds f.1.1.0) ks e

pub info_is : {A : Type 0} → IsMeaning (info_meaning {A = A}) info_base
info_is {A} = record {
  written = λ v d r. (rw r.0 refl, d, r.1);
  stays = λ v d. d;
  clean = λ f v e d r.
      let m = means_info f v [] e in
      ap (λ s. (f.0, (f.1.0, (s, f.1.1.1)))) (none_skipped f.1.1.0 m.1.1) ∙ ap info_back m.1.0;
  kept = λ f v ks e d. rw (← (means_info f v ks e).1.0) (d.0, (d.1.0, (tt, d.1.1.1)));
  read = λ f v ks e r. let m = means_info f v ks e in rw (← m.1.0) (m.0, (r.0, (r.1.0, (tt, r.1.1.1))));
}

-- at most one deviation
pub info_one : {A : Type 0} (f : InfoFields A) (v : PrivateKeyInfo A) (ks : List Deviation) → info_means f ≡ Some (v, ks) → length ks ≤ 1
info_one f v ks e = omega (arith, few_skipped f.1.1.0, ap length (means_info f v ks e).1.1)

pub info_agrees : {A : Type 0} (v : PrivateKeyInfo A) → private_key_info.strict v ≡ info_bytes v
info_agrees v =
    ap (λ x. element 48 (element 2 (small_integer_content v.version) ++ (x ++ optional_strict info_public_key.strict v.public_key)))
    (same_append (algorithm_agrees (written_fields v.private_key_algorithm)) (private_agrees (key_kind v.private_key_algorithm.algorithm) v.private_key))
