-- A walk over the outline of a private key.
use Rattle.std.proofs.Common.{◌≡◌, ℕ, ◌+◌, ◌==◌, eqb, ◌||◌, ◌∙◌, not, true, false, List, [], ◌++◌, length, refl, sym, append-nil, lit<, arith}
use Rattle.std.proofs.lemmas.Bool.Decides.{nat_tests}
use Rattle.x509_der.specs.Element.{header}
use Rattle.x509_der.specs.Items.{items}
use Rattle.x509_der.specs.PrimitiveContent.{octets}
use Rattle.x509_der.specs.Shape.{IsElement, Lawful}
use Rattle.x509_der.specs.SmallInteger.{small_integers}
use Rattle.x509_der.specs.Tagged.{tagged}
use Rattle.x509_der.specs.Tally.{Tally}
use Rattle.x509_der.specs.laws.Tagged.{tagged_element}
use Rattle.x509_outline_parts.specs.Algorithms.{algorithm}
use Rattle.x509_outline_parts.specs.AttributeValues.{attribute_values}
use Rattle.x509_more_outlines.specs.PrivateKeys.{PrivateKeyAt}
use Rattle.x509_more_outlines.specs.PublicBits.{public_bits}
use Rattle.x509_more_outlines.specs.declared.private_key_outline.PrivateKeyOutline.{PrivateKeyOutline}
use Rattle.x509_fields.specs.Keys.{key_spans}
use Rattle.x509_fields.specs.Walks.{Walk, Steps, StepsIf, StepsUnless}
use Rattle.x509_fields.specs.declared.private_key.PrivateKeyInfoFields.{PrivateKeyInfoFields}
use Rattle.x509_fields.specs.facts.Chains.{Passes, passes_none, passes_one, passes_if, passes_unless, to_end, fill_all}
use Rattle.x509_fields.specs.facts.Fields.{Before, at_front, at_back, field_step, optional_step}
use Rattle.x509_outline_fields.specs.PrivateKeys.{PrivateKeyIn}
use Rattle.x509_outline_fields.specs.facts.Steps.{optional_follows, where_step}

-- a public key begins with no attributes
bits_apart : (b : ℕ) → (eqb b 129 || eqb b 161) ≡ true → (b == 160) ≡ false
bits_apart b h = grind (arith, nat_tests)

bits_within : (b : ℕ) → (eqb b 129 || eqb b 161) ≡ true → not (b == 160) ≡ true
bits_within b h = grind (arith, nat_tests)

-- the walk before the first step, and behind each of the five, with what each found
pub record KeyWalk (at : PrivateKeyInfoFields) : Type 0 where
  pub w : Walk
  pub w1 : Walk
  pub w2 : Walk
  pub w3 : Walk
  pub w4 : Walk
  pub w5 : Walk
  pub t1 : Steps w w1 at.version
  pub t2 : Steps w1 w2 at.private_key_algorithm
  pub t3 : Steps w2 w3 at.private_key
  pub t4 : StepsIf 160 w3 w4 at.skipped
  pub t5 : StepsUnless 160 w4 w5 at.public_key

key_passes : (at : PrivateKeyInfoFields) (k : KeyWalk at) → Passes k.w k.w5 (key_spans at)
key_passes at k =
    passes_one k.w k.w1 k.w5 at.version _ k.t1
    (passes_one k.w1 k.w2 k.w5 at.private_key_algorithm _ k.t2
    (passes_one k.w2 k.w3 k.w5 at.private_key _ k.t3
    (passes_if 160 k.w3 k.w4 k.w5 at.skipped _ k.t4
    (passes_unless 160 k.w4 k.w5 k.w5 at.public_key _ k.t5 (passes_none k.w5)))))

pub walked_key : {A : Type 0} → IsElement (algorithm {A = A}) → Lawful (public_bits {A = A}) → IsElement (public_bits {A = A}) → (at : PrivateKeyInfoFields) (k : KeyWalk at) (v : PrivateKeyOutline A) (string : List ℕ) (y : Tally) → (a : PrivateKeyAt v string y) → k.w.rest ≡ a.content → k.w.at ≡ header a.content → PrivateKeyIn v at string y
walked_key algorithms lawful bits at k v string y a rest start =
    let m = header a.content in
    let j0 = a.fields.parts in
    let j1 = j0.second.parts in
    let e0 = j1.second.parts in
    let e1 = e0.second.parts in
    let b0 : Before k.w m a.content [] = record { rest = rest ∙ sym (append-nil a.content); at = start } in
    let r1 = field_step (tagged 2 small_integers) (tagged_element 2 small_integers refl (lit< tt)) v.version m j0.front (j0.back ++ []) string y k.w k.w1 at.version j0.first.field (at_front k.w m a.content j0.front j0.back [] j0.bytes b0) k.t1 in
    let m1 = m + length j0.front in
    let r2 = field_step algorithm algorithms v.private_key_algorithm m1 j1.front (j1.back ++ []) string y k.w1 k.w2 at.private_key_algorithm j1.first.field (at_front k.w1 m1 j0.back j1.front j1.back [] j1.bytes (at_back k.w1 m j0.front j0.back [] r1.behind)) k.t2 in
    let m2 = m1 + length j1.front in
    let r3 = field_step (tagged 4 octets) (tagged_element 4 octets refl (lit< tt)) v.private_key m2 e0.front (e0.back ++ []) string y k.w2 k.w3 at.private_key e0.first.field (at_front k.w2 m2 j1.back e0.front e0.back [] e0.bytes (at_back k.w2 m1 j1.front j1.back [] r2.behind)) k.t3 in
    let m3 = m2 + length e0.front in
    let r4 = optional_step 160 (items attribute_values) refl (lit< tt) v.attributes m3 e1.front (e1.back ++ []) string y k.w3 k.w4 at.skipped e1.first.parts (at_front k.w3 m3 e0.back e1.front e1.back [] e1.bytes (at_back k.w3 m2 e0.front e0.back [] r3.behind)) (optional_follows (λ b. b == 160) public_bits lawful bits bits_apart v.public_key e1.back [] _ e1.second.field.spelled tt) k.t4 in
    let m4 = m3 + length e1.front in
    let r5 = where_step (λ b. not (b == 160)) public_bits lawful bits bits_within v.public_key m4 e1.back [] string y k.w4 k.w5 at.public_key e1.second.parts (at_back k.w4 m3 e1.front e1.back [] r4.behind) tt k.t5 in
    let all = to_end k.w k.w5 (key_spans at) (key_passes at k) r5.behind.rest in
    record {
      version = r1.field;
      private_key_algorithm = r2.field;
      private_key = r3.field;
      attributes = r4.field;
      public_key = r5.field;
      fill = fill_all string a.content (key_spans at) k.w a.bytes rest start all;
    }
