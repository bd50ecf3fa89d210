-- What the fields of RSASSA-PSS parameters mean keeps the laws.
use Rattle.std.proofs.Common.{◌≡◌, ℕ, ◌+◌, ◌*◌, ◌<◌, ◌≤◌, ◌^◌, Bool, true, false, cond, List, [], ◌∷◌, length, Option, Some, None, ⊎_elim, refl, sym, ap, subst, ◌∙◌, arith}
use Rattle.std.specs.Prelude.{pos, nat_lt, nat_le, nat_abs, if◌then◌else◌}
use Rattle.x509_der.specs.declared.integer.Magnitude.TheVariants as magnitudes
use Rattle.std.proofs.lemmas.Bool.Decides.{nat_tests}
use Rattle.std.proofs.lemmas.Bool.{cases_lt}
use Rattle.x509_der.specs.Types.{Deviation}
use Rattle.x509_der.specs.Types.deviation
use Rattle.x509_der.specs.Element.{base}
use Rattle.x509_der.specs.Integer.{magnitude, sign_bit, signed_value, unsigned_value, unsigned_content, natural_content, integers}
use Rattle.x509_der.specs.facts.Integer.{signed_value-low, integer_lawful}
use Rattle.x509_der.specs.facts.NaturalNumber.{natural_minimal, natural_bytes, natural_value, natural_read}
use Rattle.x509_der.specs.facts.Lists.{same_pair}
use Rattle.x509_der.specs.laws.View.{some_one}
use Rattle.x509_der.specs.Shape.{Lawful}
use Rattle.x509_der.specs.View.{IsSeen}
use Rattle.x509_der.specs.Partly.{unmarked}
use Rattle.x509_der.specs.facts.Partly.{means_value}
use Rattle.x509_der.specs.laws.Meaning.{IsMeaning, tagged_markable, seen_one}
use Rattle.x509_der.specs.laws.Tagged.{tagged_lawful}
use Rattle.x509_keys_parts.specs.RsassaPss.{MaskGenFields, mask_gen_parts, mask_gen, PssFields, natural_of, salt_base, salt_meaning, pss_inner, pss_base, salt_of, salt_kinds, with_salt, pss_means, pss_fields, IsPss, pss_meaning}
use Rattle.x509_keys_parts.specs.declared.rsassa_pss.MaskGenAlgorithm.{MaskGenAlgorithm}
use Rattle.x509_keys_parts.specs.declared.rsassa_pss.RsassaPssParams.{RsassaPssParams}

abbrev pub mask_gen_of : {A : Type 0} → MaskGenFields → MaskGenAlgorithm A
mask_gen_of f = record { mask_gen_algorithm = f.0; hash_algorithm = f.1 }

pub mask_gen_same : {A : Type 0} (v w : MaskGenAlgorithm A) → mask_gen_parts v ≡ mask_gen_parts w → v ≡ w
mask_gen_same v w e = ap mask_gen_of e

-- the salt's length
small_test : (n : ℕ) → n < 2 ^ 64 → nat_lt n 18446744073709551616 ≡ true
small_test n h = grind (arith, nat_tests)

large_test : (n : ℕ) → 2 ^ 64 ≤ n → nat_lt n 18446744073709551616 ≡ false
large_test n h = grind (arith, nat_tests)

same_content : (c d : List ℕ) → ◌≡◌ {A = Option (List ℕ)} (Some c) (Some d) → c ≡ d
same_content c d e = cc

number_of : (c : List ℕ) (n : ℕ) → sign_bit c ≡ false → signed_value c ≡ pos n → unsigned_value c ≡ n
number_of c n s e = ap nat_abs (sym (signed_value-low c s) ∙ e)

pub salt_small : (c : List ℕ) (n : ℕ) → sign_bit c ≡ false → signed_value c ≡ pos n → n < 2 ^ 64 → salt_of c ≡ Some (n, [])
salt_small c n s e h = rw (s, number_of c n s e, small_test n h) refl

pub salt_large : (c : List ℕ) → sign_bit c ≡ false → ((n : ℕ) → n < 2 ^ 64 → signed_value c ≡ pos n → ⊥) → salt_of c ≡ Some (18446744073709551615, deviation.SaltTooLarge ∷ [])
salt_large c s h =
    ⊎_elim
    (λ l. absurd (h (unsigned_value c) l (signed_value-low c s)))
    (λ l. rw (s, large_test (unsigned_value c) l) refl)
    (cases_lt (unsigned_value c) (2 ^ 64))

pub salt_negative : (c : List ℕ) → sign_bit c ≡ true → salt_of c ≡ None
salt_negative c s = rw s refl

-- a natural number has no sign
sign_test : (b : ℕ) (r : List ℕ) (t : Bool) → nat_le 128 b ≡ t → sign_bit (cond t (0 ∷ b ∷ r) (b ∷ r)) ≡ false
sign_test b r true e = refl
sign_test b r false e = e

unsigned_sign : (s : List ℕ) → sign_bit (unsigned_content s) ≡ false
unsigned_sign [] = refl
unsigned_sign (b ∷ r) = sign_test b r (nat_le 128 b) refl

natural_sign : (n : ℕ) → sign_bit (natural_content n) ≡ false
unfolding base
natural_sign n = unsigned_sign (base n)

natural_salt : (n : ℕ) → n < 2 ^ 64 → salt_of (natural_content n) ≡ Some (n, [])
natural_salt n h = salt_small (natural_content n) n (natural_sign n) (natural_value n) h

-- an INTEGER that isn't negative
natural_again : (c d : List ℕ) (t : Bool) → sign_bit c ≡ t → cond {A = Option (List ℕ)} t None (Some c) ≡ Some d → (sign_bit d ≡ false) × (c ≡ d)
natural_again c d true s e = cc
natural_again c d false s e = let k : c ≡ d = same_content c d e in (ap sign_bit (sym k) ∙ s, k)

salt_again : (c d : List ℕ) (ks : List Deviation) → unmarked (natural_of c) ≡ Some (d, ks) → (sign_bit d ≡ false) × ((c ≡ d) × (ks ≡ []))
salt_again c d ks e = let k = means_value (natural_of c) d ks e in let n = natural_again c d (sign_bit c) refl k.0 in (n.0, (n.1, k.1))

pub salt_is : IsMeaning salt_meaning salt_base
salt_is = record {
  written = λ v d r. (rw d.0 refl, d.1, r);
  stays = λ v d. d.1;
  clean = λ b v e d r. (salt_again b v [] e).1.0;
  kept = λ b v ks e d. let k = salt_again b v ks e in (k.0, subst salt_base.valid k.1.0 d);
  read = λ b v ks e r. subst salt_base.readable (salt_again b v ks e).1.0 r;
}

pub salt_keeps : Lawful salt_base × IsSeen salt_meaning salt_base
salt_keeps = (tagged_lawful 2 integers integer_lawful, seen_one salt_meaning salt_base (tagged_markable 2 integers integer_lawful) salt_is (λ b v ks e. omega (arith, ap length (salt_again b v ks e).1.1)))

-- what a length that was read says of its content
record SaltSays (c : List ℕ) (n : ℕ) (ks : List Deviation) : Type 0 where
  sign : sign_bit c ≡ false
  small : n < 2 ^ 64
  few : length ks ≤ 1
  clean : ks ≡ [] → unsigned_value c ≡ n

some_of : (m n : ℕ) (js ks : List Deviation) → ◌≡◌ {A = Option (ℕ × List Deviation)} (Some (m, js)) (Some (n, ks)) → (m ≡ n) × (js ≡ ks)
some_of m n js ks e = some_one m n js ks e

within_says : (c : List ℕ) (t : Bool) (n : ℕ) (ks : List Deviation) → sign_bit c ≡ false → nat_lt (unsigned_value c) 18446744073709551616 ≡ t → cond {A = Option (ℕ × List Deviation)} t (Some (unsigned_value c, [])) (Some (18446744073709551615, deviation.SaltTooLarge ∷ [])) ≡ Some (n, ks) → SaltSays c n ks
within_says c true n ks s t e =
    let k = some_of (unsigned_value c) n [] ks e in
    record { sign = s; small = rw (← k.0) (grind (arith, nat_tests)); few = omega (arith, ap length k.1); clean = λ h. k.0 }
within_says c false n ks s t e =
    let k = some_of 18446744073709551615 n (deviation.SaltTooLarge ∷ []) ks e in
    record { sign = s; small = omega (arith, k.0); few = omega (arith, ap length k.1); clean = λ h. absurd (omega (arith, ap length k.1, ap length h)) }

sign_says : (c : List ℕ) (t : Bool) (n : ℕ) (ks : List Deviation) → sign_bit c ≡ t → cond {A = Option (ℕ × List Deviation)} t None (cond {A = Option (ℕ × List Deviation)} (nat_lt (unsigned_value c) 18446744073709551616) (Some (unsigned_value c, [])) (Some (18446744073709551615, deviation.SaltTooLarge ∷ []))) ≡ Some (n, ks) → SaltSays c n ks
sign_says c true n ks s e = cc
sign_says c false n ks s e = within_says c (nat_lt (unsigned_value c) 18446744073709551616) n ks s refl e

salt_says : (c : List ℕ) (n : ℕ) (ks : List Deviation) → salt_of c ≡ Some (n, ks) → SaltSays c n ks
salt_says c n ks e = sign_says c (sign_bit c) n ks refl e

-- what parameters that were read say of their fields
pub record PssSays {A : Type 0} (b : PssFields A) (v : RsassaPssParams A) (ks : List Deviation) : Type 0 where
  pub hash : b.0 ≡ v.hash_algorithm
  pub mask : b.1.0 ≡ v.mask_gen_algorithm
  pub salt : salt_of b.1.1 ≡ Some (v.salt_length, ks)

with_says : {A : Type 0} (b : PssFields A) (s : Option (ℕ × List Deviation)) (v : RsassaPssParams A) (ks : List Deviation) → salt_of b.1.1 ≡ s → with_salt b.0 b.1.0 s ≡ Some (v, ks) → PssSays b v ks
with_says b None v ks h e = cc
with_says {A} b (Some s) v ks h e =
    let k = some_one (record { hash_algorithm = b.0; mask_gen_algorithm = b.1.0; salt_length = s.0 }) v s.1 ks e in
    record {
      hash = ap (λ (x : RsassaPssParams A). x.hash_algorithm) k.0;
      mask = ap (λ (x : RsassaPssParams A). x.mask_gen_algorithm) k.0;
      salt = h ∙ ap (λ n. Some (n, s.1)) (ap (λ (x : RsassaPssParams A). x.salt_length) k.0) ∙ ap (λ js. Some (v.salt_length, js)) k.1;
    }

pub pss_says : {A : Type 0} (b : PssFields A) (v : RsassaPssParams A) (ks : List Deviation) → pss_means b ≡ Some (v, ks) → PssSays b v ks
pss_says b v ks e = with_says b (salt_of b.1.1) v ks refl e

natural_lawful : (n : ℕ) → integers.valid (natural_content n)
natural_lawful n = (natural_bytes n, natural_minimal n)

fields_valid : {A : Type 0} (v : RsassaPssParams A) → IsPss v → (pss_inner {A = A}).valid (pss_fields v)
fields_valid v d = (tt, (d.0, (natural_sign v.salt_length, natural_lawful v.salt_length)))

pub pss_is : {A : Type 0} → IsMeaning (pss_meaning {A = A}) pss_base
pss_is {A} = record {
  written = λ v d r. (ap (with_salt v.hash_algorithm v.mask_gen_algorithm) (natural_salt v.salt_length d.1), fields_valid v d, (tt, (r, tt)));
  stays = fields_valid;
  clean = λ b v e d r.
      let k = pss_says b v [] e in
      let s = salt_says b.1.1 v.salt_length [] k.salt in
      let c : b.1.1 ≡ natural_content v.salt_length = natural_read b.1.1 d.1.1.1.0 d.1.1.1.1 s.sign ∙ ap natural_content (s.clean refl) in
      let m = same_pair (λ (x : MaskGenAlgorithm A × List ℕ). x.0) (λ x. x.1) (λ x y. (x, y)) (λ x. refl) b.1 (v.mask_gen_algorithm, natural_content v.salt_length) k.mask c in
      same_pair (λ (x : PssFields A). x.0) (λ x. x.1) (λ x y. (x, y)) (λ x. refl) b (pss_fields v) k.hash m;
  kept = λ b v ks e d.
      let k = pss_says b v ks e in
      (subst (λ m. mask_gen.valid m) k.mask d.1.0, (salt_says b.1.1 v.salt_length ks k.salt).small);
  read = λ b v ks e r. subst (λ m. mask_gen.readable m) (pss_says b v ks e).mask r.1.0;
}

pub pss_one : {A : Type 0} (b : PssFields A) (v : RsassaPssParams A) (ks : List Deviation) → pss_means b ≡ Some (v, ks) → length ks ≤ 1
pss_one b v ks e = (salt_says b.1.1 v.salt_length ks (pss_says b v ks e).salt).few

abbrev after : ℕ → Option (List Deviation) → Option (ℕ × List Deviation)
after n None = None
after n (Some ks) = Some (n, ks)

byte_test : (a : ℕ) → nat_le 128 a ≡ false → nat_lt (a * 256 ^ 0 + 0) 18446744073709551616 ≡ true
byte_test a h = grind (arith, nat_tests)

abbrev salt_if : Bool → Bool → ℕ → Option (ℕ × List Deviation)
salt_if s t n = if◌then◌else◌ {A = Option (ℕ × List Deviation)} s None (if◌then◌else◌ {A = Option (ℕ × List Deviation)} t (Some (n, [])) (Some (18446744073709551615, deviation.SaltTooLarge ∷ [])))

salt_by : (s t : Bool) (n : ℕ) (ks : List Deviation) → salt_kinds (if s then magnitudes.Negative else if t then magnitudes.Small else magnitudes.Large) ≡ Some ks → (m : ℕ) × (salt_if s t n ≡ Some (m, ks))
salt_by true t n ks e = absurd cc
salt_by false true n ks e = (n, ap (λ (o : Option (List Deviation)). after n o) e)
salt_by false false n ks e = (18446744073709551615, ap (λ (o : Option (List Deviation)). after 18446744073709551615 o) e)

no_salt_by : (s t : Bool) (n : ℕ) → salt_kinds (if s then magnitudes.Negative else if t then magnitudes.Small else magnitudes.Large) ≡ None → salt_if s t n ≡ None
no_salt_by true t n e = refl
no_salt_by false true n e = absurd cc
no_salt_by false false n e = absurd cc

salt_byte : (s t : Bool) (a n : ℕ) (ks : List Deviation) → (s ≡ false → t ≡ true) → salt_kinds (if s then magnitudes.Negative else magnitudes.Byte a) ≡ Some ks → (m : ℕ) × (salt_if s t n ≡ Some (m, ks))
salt_byte true t a n ks w e = absurd cc
salt_byte false t a n ks w e = (n, rw (w refl) (ap (λ (o : Option (List Deviation)). after n o) e))

no_salt_byte : (s t : Bool) (a n : ℕ) → salt_kinds (if s then magnitudes.Negative else magnitudes.Byte a) ≡ None → salt_if s t n ≡ None
no_salt_byte true t a n e = refl
no_salt_byte false t a n e = absurd cc

-- what is said of the salt's length by how large it is
pub salt_judged : (c : List ℕ) (ks : List Deviation) → salt_kinds (magnitude c) ≡ Some ks → (n : ℕ) × (salt_of c ≡ Some (n, ks))
salt_judged [] ks e = (0, ap (λ (o : Option (List Deviation)). after 0 o) e)
salt_judged (a ∷ []) ks e = salt_byte (nat_le 128 a) (nat_lt (a * 256 ^ 0 + 0) 18446744073709551616) a (a * 256 ^ 0 + 0) ks (byte_test a) e
salt_judged (a ∷ b ∷ r) ks e = salt_by (nat_le 128 a) (nat_lt (unsigned_value (a ∷ b ∷ r)) 18446744073709551616) (unsigned_value (a ∷ b ∷ r)) ks e

pub salt_not_judged : (c : List ℕ) → salt_kinds (magnitude c) ≡ None → salt_of c ≡ None
salt_not_judged [] e = absurd cc
salt_not_judged (a ∷ []) e = no_salt_byte (nat_le 128 a) (nat_lt (a * 256 ^ 0 + 0) 18446744073709551616) a (a * 256 ^ 0 + 0) e
salt_not_judged (a ∷ b ∷ r) e = no_salt_by (nat_le 128 a) (nat_lt (unsigned_value (a ∷ b ∷ r)) 18446744073709551616) (unsigned_value (a ∷ b ∷ r)) e
