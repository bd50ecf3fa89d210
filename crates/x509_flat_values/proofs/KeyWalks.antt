-- A walk over the fields of a public key.
use Rattle.std.proofs.Common.{◌≡◌, true, false, ℕ, ◌+◌, Bool, List, [], ◌∷◌, ◌++◌, length, Option, Some, None, refl, sym, ap, ◌∙◌, arith, subst, append-nil, inl, inr}
use Rattle.std.proofs.Common.{◌⊎◌}
use Rattle.std.specs.List.{list_any}
use Rattle.std.specs.Prelude.{◌&&◌, ◌*◌, ◌<◌, ◌^◌, if◌then◌else◌}
use Rattle.x509_der.specs.BitString.{bit_content, payload, unused_bits}
use Rattle.x509_der.specs.Element.{element, header, is_tag}
use Rattle.x509_der.specs.Integer.{unsigned_value}
use Rattle.x509_der.specs.ObjectIdentifier.{IsOid, arcs_spelled, is_arcs, oid_content}
use Rattle.x509_der.specs.Reading.{NoFirst}
use Rattle.x509_der.specs.Tally.{Tally}
use Rattle.x509_der.specs.Optional.{Optional}
use Rattle.x509_der.specs.Types.{Deviation}
use Rattle.x509_der.specs.facts.Element.{element_one}
use Rattle.x509_der.specs.facts.ObjectIdentifier.{oid_plain, some_is}
use Rattle.x509_keys.specs.AesParameters.{aes_parameters}
use Rattle.x509_keys.specs.AlgorithmIdentifier.{Algorithm, are_absent, is_rsa, with_null}
use Rattle.x509_keys.specs.AlgorithmKinds.{ec_public_key_algorithm, kind_of}
use Rattle.x509_keys.specs.AlgorithmParameters.{by_kind, if_aes, if_null}
use Rattle.x509_keys.specs.HashAlgorithms.{null}
use Rattle.x509_keys.specs.EcParameters.{curve_of}
use Rattle.x509_keys.specs.KeyKinds.{ed_algorithms, key_kind, mldsa_algorithms, rsa_encryption}
use Rattle.x509_keys.specs.PublicKeys.{public_by_kind}
use Rattle.x509_keys.specs.RsaPublicKeys.{rsa_public_key}
use Rattle.x509_keys.specs.SubjectPublicKeyInfos.{subject_public_key_info}
use Rattle.x509_keys.specs.Types.{AesParameters, AlgorithmIdentifierParameters}
use Rattle.x509_keys.specs.Types.aes_parameters as aes
use Rattle.x509_keys.specs.Types.algorithm_identifier_parameters as parameters
use Rattle.x509_keys.specs.declared.public_key.PublicKey.{PublicKey}
use Rattle.x509_keys.specs.declared.public_key.PublicKey.TheVariants as key
use Rattle.x509_keys.specs.declared.rsa_public_key.RsaPublicKey.{RsaPublicKey}
use Rattle.x509_keys.specs.declared.subject_public_key_info.SubjectPublicKeyInfo.{SubjectPublicKeyInfo}
use Rattle.x509_keys_parts.specs.declared.algorithm_parameters.AlgorithmKind.{AlgorithmKind}
use Rattle.x509_keys_parts.specs.declared.algorithm_parameters.AlgorithmKind.TheVariants as algorithms
use Rattle.x509_keys_parts.specs.declared.key_kind.KeyKind.{KeyKind}
use Rattle.x509_keys_parts.specs.declared.key_kind.KeyKind.TheVariants as kinds
use Rattle.x509_fields.specs.Spans.{FieldIn}
use Rattle.x509_fields.specs.declared.span.Span.{Span}
use Rattle.x509_values.specs.Rests.{Rest}
use Rattle.x509_values.specs.Elements.{Finds, Over, Passes, span_of}
use Rattle.x509_values.specs.declared.elements.Element.{Element}
use Rattle.x509_values.specs.facts.Elements.{finds_it}
use Rattle.x509_values.specs.facts.Values.{covered}
use Rattle.x509_flat_values.specs.Covered.{CoversAll, CoversIf, Within, no_span}
use Rattle.x509_flat_values.specs.Curves.{curve_size, size_if, size_or}
use Rattle.x509_flat_values.specs.KeyParts.{CurveTold, KeyBytes, KeySays, PartsTold, RawBytes, RsaBytes, RsaTold, no_curve}
use Rattle.x509_flat_values.specs.Numbers.{IsBitLength}
use Rattle.x509_flat_values.specs.Keys.{KeyTold, SizeTold, bytes_in, content_if, curve_in, exponent_in, modulus_in}
use Rattle.x509_flat_values.specs.declared.keys.Curve.{Curve}
use Rattle.x509_flat_values.specs.declared.keys.KeyPlaces.{KeyPlaces}
use Rattle.x509_flat_values.specs.declared.rsa.RsaPlaces.{RsaPlaces}
use Rattle.x509_flat_values.proofs.Walking.{Step, step, last_step, over_within, span_covers, covers_back, covers_as}

-- ---- the curve
-- the parameters name no curve, and are no OBJECT IDENTIFIER
pub record NoCurve {A : Type 0} (v : AlgorithmIdentifierParameters A) (p : List ℕ) : Type 0 where
  pub none : curve_in v ≡ None
  pub other : (c q : List ℕ) → p ≡ element 6 c ++ q → ⊥

-- or they are the OBJECT IDENTIFIER of a curve
pub record IsCurve {A : Type 0} (v : AlgorithmIdentifierParameters A) (p : List ℕ) : Type 0 where
  pub arcs : List ℕ
  pub content : List ℕ
  pub is_oid : IsOid arcs content
  pub bytes : p ≡ element 6 content
  pub curve : curve_in v ≡ Some arcs

abbrev pub Parameters : {A : Type 0} → AlgorithmIdentifierParameters A → List ℕ → Type 0
Parameters v p = NoCurve v p ⊎ IsCurve v p

nothing_there : (p c q : List ℕ) → p ≡ [] → p ≡ element 6 c ++ q → ⊥
unfolding element
nothing_there p c q e f = let k = sym e ∙ f in omega (arith, ap length k)

other_there : (t : ℕ) (d p c q : List ℕ) → (t ≡ 6 → ⊥) → p ≡ element t d → p ≡ element 6 c ++ q → ⊥
other_there t d p c q n e f = n (element_one t 6 d c [] q (append-nil (element t d) ∙ sym e ∙ f)).tag

no_element : {A : Type 0} (v : AlgorithmIdentifierParameters A) (p : List ℕ) → curve_in v ≡ None → p ≡ [] → Parameters v p
no_element v p none e = inl (record { none = none; other = λ c q f. nothing_there p c q e f })

other_element : {A : Type 0} (v : AlgorithmIdentifierParameters A) (t : ℕ) (d p : List ℕ) → curve_in v ≡ None → (t ≡ 6 → ⊥) → p ≡ element t d → Parameters v p
other_element v t d p none n e = inl (record { none = none; other = λ c q f. other_there t d p c q n e f })

null_there : {A : Type 0} (o : Option (Unit {0})) (v : AlgorithmIdentifierParameters A) (p : List ℕ) (y : Tally) → v ≡ if_null o → Optional null o p y → Parameters v p
null_there None v p y is h = no_element v p (ap curve_in is) h.0
null_there (Some u) v p y is h = other_element v 5 h.content p (ap curve_in is) (λ z. omega (arith, z)) h.bytes

aes_there : {A : Type 0} (o : Option (AesParameters A)) (v : AlgorithmIdentifierParameters A) (p : List ℕ) (y : Tally) → v ≡ if_aes o → Optional aes_parameters o p y → Parameters v p
aes_there None v p y is h = no_element v p (ap curve_in is) h.0
aes_there (Some aes.Null) v p y is h = other_element v 5 h.content p (ap curve_in is) (λ z. omega (arith, z)) h.bytes
aes_there (Some (aes.InitializationVector i)) v p y is h = other_element v 4 h.content p (ap curve_in is) (λ z. omega (arith, z)) h.bytes
aes_there (Some (aes.AuthenticatedEncryptionParameters i)) v p y is h = other_element v 48 h.content p (ap curve_in is) (λ z. omega (arith, z)) h.bytes

pub parameters_are : {A : Type 0} (kind : AlgorithmKind) (v : AlgorithmIdentifierParameters A) (p : List ℕ) (y : Tally) → (by_kind kind).spelled v p y → Parameters v p
parameters_are algorithms.Rsa v p y h = null_there h.payload v p y h.is h.spelled
parameters_are algorithms.RsassaPss v p y h = other_element v 48 h.spelled.spelled.content p (ap curve_in h.is) (λ z. omega (arith, z)) h.spelled.spelled.bytes
parameters_are algorithms.EcPublicKey v p y h = inr (record { arcs = curve_of h.payload; content = h.spelled.content; is_oid = h.spelled.spelled.0; bytes = h.spelled.bytes; curve = ap curve_in h.is })
parameters_are algorithms.Bare v p y h = no_element v p (ap curve_in h.is) h.spelled.0
parameters_are algorithms.Aes v p y h = aes_there h.payload v p y h.is h.spelled
parameters_are algorithms.Hash v p y h = other_element v 5 h.spelled.content p (ap curve_in h.is) (λ z. omega (arith, z)) h.spelled.bytes
parameters_are algorithms.Unknown v p y h = absurd h

no_curve_told : {A : Type 0} (v : AlgorithmIdentifierParameters A) (string : List ℕ) (curve : Curve) → curve_in v ≡ None → curve ≡ no_curve → CurveTold v string curve
no_curve_told v string curve none is =
    let P : Option (List ℕ) → Type 0 = λ o. CoversIf string curve.place (content_if o) in
    record { place = subst P (sym none) (ap (λ (c : Curve). c.place) is); size = ap (λ (c : Curve). c.size) is ∙ ap size_if (sym none) }

-- nothing is left
pub curve_absent : {A : Type 0} (v : AlgorithmIdentifierParameters A) (string p : List ℕ) (curve : Curve) → Parameters v p → NoFirst p → curve ≡ no_curve → CurveTold v string curve
curve_absent v string p curve (inl n) none is = no_curve_told v string curve n.none is
curve_absent v string p curve (inr k) none is = absurd (none 6 k.content [] refl (k.bytes ∙ sym (append-nil (element 6 k.content))))

-- another element is
pub curve_other : {A : Type 0} (v : AlgorithmIdentifierParameters A) (string : List ℕ) (w next : Rest) (e : Element) (curve : Curve) → Parameters v w.rest → Passes w next e → (e.tag ≡ 6 → ⊥) → curve ≡ no_curve → CurveTold v string curve
curve_other v string w next e curve (inl n) h other is = no_curve_told v string curve n.none is
curve_other v string w next e curve (inr k) h other is = absurd (other (element_one e.tag 6 e.inside.rest k.content next.rest [] (sym h.bytes ∙ k.bytes ∙ sym (append-nil (element 6 k.content)))).tag)

-- an object identifier is, and so a curve's
pub is_curve : {A : Type 0} (v : AlgorithmIdentifierParameters A) (w next : Rest) (e : Element) → Parameters v w.rest → Passes w next e → e.tag ≡ 6 → IsCurve v w.rest
is_curve v w next e (inl n) h six =
    let P : ℕ → Type 0 = λ t. w.rest ≡ element t e.inside.rest ++ next.rest in
    absurd (n.other e.inside.rest next.rest (subst P six h.bytes))
is_curve v w next e (inr k) h six = k

curve_content : {A : Type 0} (v : AlgorithmIdentifierParameters A) (w next : Rest) (e : Element) (k : IsCurve v w.rest) → Passes w next e → e.inside.rest ≡ k.content
curve_content v w next e k h = (element_one e.tag 6 e.inside.rest k.content next.rest [] (sym h.bytes ∙ k.bytes ∙ sym (append-nil (element 6 k.content)))).content

pub curve_known : {A : Type 0} (v : AlgorithmIdentifierParameters A) (w next : Rest) (e : Element) → Parameters v w.rest → Passes w next e → e.tag ≡ 6 → ((arcs : List ℕ) → IsOid arcs e.inside.rest → ⊥) → ⊥
curve_known v w next e p h six none =
    let k = is_curve v w next e p h six in
    let P : List ℕ → Type 0 = λ c. IsOid k.arcs c in
    none k.arcs (subst P (sym (curve_content v w next e k h)) k.is_oid)

-- one content is that of one object identifier
pub same_arcs : (a b c : List ℕ) → IsOid a c → IsOid b c → a ≡ b
same_arcs a b c h k = oid_plain.one a b c h k

pub curve_there : {A : Type 0} (v : AlgorithmIdentifierParameters A) (string : List ℕ) (w next : Rest) (e : Element) (curve : Curve) (arcs : List ℕ) → Within string w → Parameters v w.rest → Passes w next e → e.tag ≡ 6 → IsOid arcs e.inside.rest → curve.place ≡ span_of e.inside → curve.size ≡ Some (curve_size arcs) → CurveTold v string curve
curve_there v string w next e curve arcs here p h six oid place bits =
    let k = is_curve v w next e p h six in
    let c = curve_content v w next e k h in
    let s = last_step string 6 k.content w next e here k.bytes refl (finds_it w next e h) in
    let I : List ℕ → Type 0 = λ x. IsOid k.arcs x in
    let a : arcs ≡ k.arcs = same_arcs arcs k.arcs e.inside.rest oid (subst I (sym c) k.is_oid) in
    let P : Option (List ℕ) → Type 0 = λ o. CoversIf string curve.place (content_if o) in
    record {
      place = subst P (sym k.curve) (span_covers string (oid_content k.arcs) e.inside curve.place s.inside (c ∙ k.is_oid.1) place);
      size = bits ∙ ap (λ x. Some (curve_size x)) a ∙ ap size_if (sym k.curve);
    }

-- ---- the key
pub record KeyElement {A : Type 0} (kind : KeyKind) (v : PublicKey A) (p : List ℕ) : Type 0 where
  pub first : ℕ
  pub more : List ℕ
  pub bytes : p ≡ element 3 (first ∷ more)
  pub says : KeySays kind v more

pub key_element : {A : Type 0} (kind : KeyKind) (v : PublicKey A) (p : List ℕ) (y : Tally) → (public_by_kind kind).spelled v p y → KeyElement kind v p
key_element kinds.Rsa v p y h =
    let j = h.spelled.spelled in
    record {
      first = 0;
      more = j.back;
      bytes = h.spelled.bytes ∙ ap (element 3) (j.bytes ∙ ap (λ x. x ++ j.back) j.fore.0);
      says = record { value = h.payload; tally = j.second; is = h.is; spelled = j.aft };
    }
key_element kinds.Ec v p y h = record { first = unused_bits (length h.payload); more = payload h.payload; bytes = h.spelled.bytes ∙ ap (element 3) h.spelled.spelled.0; says = record { bits = h.payload; is = h.is; bytes = refl } }
key_element kinds.Ed v p y h = record { first = unused_bits (length h.payload); more = payload h.payload; bytes = h.spelled.bytes ∙ ap (element 3) h.spelled.spelled.0; says = record { bits = h.payload; is = h.is; bytes = refl } }
key_element kinds.Mldsa v p y h = record { first = unused_bits (length h.payload); more = payload h.payload; bytes = h.spelled.bytes ∙ ap (element 3) h.spelled.spelled.0; says = record { bits = h.payload; is = h.is; bytes = refl } }
key_element kinds.Unknown v p y h = absurd h

-- ---- all parts
curve_same : {A : Type 0} (r : Bool) (p : AlgorithmIdentifierParameters A) → curve_in (with_null (r && are_absent p) p) ≡ curve_in p
curve_same false p = refl
curve_same true parameters.None = refl
curve_same true parameters.Null = refl
curve_same true (parameters.Aes q) = refl
curve_same true (parameters.Ec q) = refl
curve_same true (parameters.RsassaPss q) = refl

pub parts_told : {A : Type 0} (string : List ℕ) (span : Span) (v : SubjectPublicKeyInfo A) (whole : Tally) (f : FieldIn subject_public_key_info v span string whole) (w0 w1 f1 f2 a1 : Rest) (e1 e2 e3 e4 : Element) (curve : Curve) (at algorithm : Span) (identifier : List ℕ) →
    Over string span w0 → Finds w0 w1 e1 → Finds e1.inside f1 e2 → Finds e2.inside a1 e3 →
    ((kind : AlgorithmKind) (p : AlgorithmIdentifierParameters A) (y : Tally) → Within string a1 → (by_kind kind).spelled p a1.rest y → CurveTold p string curve) →
    Finds f1 f2 e4 →
    ((more : List ℕ) (first : ℕ) → Within string e4.inside → e4.inside.rest ≡ first ∷ more → CoversAll string at more) →
    identifier ≡ e3.inside.rest → algorithm ≡ span_of e3.inside →
    PartsTold v string identifier algorithm curve at
parts_told {A} string span v whole f w0 w1 f1 f2 a1 e1 e2 e3 e4 curve at algorithm identifier over finds1 finds2 finds3 curves finds4 behind id place =
    let o = over_within string f.slice span w0 over (covered subject_public_key_info v span string whole f) in
    let s = f.at.spelled in
    let j = s.spelled in
    let t1 = last_step string 48 s.content w0 w1 e1 o.0 (o.1 ∙ s.bytes) refl finds1 in
    let a = j.fore in
    let i = a.spelled in
    let t2 = step string 48 i.content j.back e1.inside f1 e2 t1.inside (t1.content ∙ j.bytes ∙ ap (λ x. x ++ j.back) i.bytes) refl finds2 in
    let m = i.spelled in
    let d = m.fore in
    let t3 = step string 6 d.content m.back e2.inside a1 e3 t2.inside (t2.content ∙ m.bytes ∙ ap (λ x. x ++ m.back) d.bytes) refl finds3 in
    let k = key_element (key_kind v.algorithm.algorithm) v.subject_public_key j.back j.second j.aft in
    let t4 = last_step string 3 (k.first ∷ k.more) f1 f2 e4 t2.next (t2.rest ∙ k.bytes) refl finds4 in
    let same = some_is _ _ a.means in
    let arcs : a.base.0 ≡ v.algorithm.algorithm = ap (λ (x : Algorithm A × List Deviation). x.0.algorithm) same in
    let params : curve_in a.base.1 ≡ curve_in v.algorithm.parameters = sym (curve_same (is_rsa (kind_of a.base.0)) a.base.1) ∙ ap (λ (x : Algorithm A × List Deviation). curve_in x.0.parameters) same in
    let B : List ℕ → Type 0 = λ x. (by_kind (kind_of a.base.0)).spelled a.base.1 x m.second in
    let c = curves (kind_of a.base.0) a.base.1 m.second t3.next (subst B (sym t3.rest) m.aft) in
    let I : List ℕ → Type 0 = λ x. IsOid x identifier in
    let J : List ℕ → Type 0 = λ x. IsOid a.base.0 x in
    let C : Option (List ℕ) → Type 0 = λ x. CoversIf string curve.place (content_if x) in
    record {
      is_oid = subst I arcs (subst J (sym (id ∙ t3.content)) d.spelled.0);
      algorithm_at = span_covers string identifier e3.inside algorithm t3.inside (sym id) place;
      curve_at = record { place = subst C params c.place; size = c.size ∙ ap size_if params };
      key_at = record { bytes = k.more; covers = behind k.more k.first t4.inside t4.content; says = k.says };
    }

-- ---- an RSA key
pub rsa_told : {A : Type 0} (string : List ℕ) (span : Span) (k : RsaPublicKey A) (slice : List ℕ) (y : Tally) (w0 w1 n1 n2 : Rest) (e1 e2 e3 : Element) (digits : List ℕ) (at : RsaPlaces) →
    CoversAll string span slice → rsa_public_key.spelled k slice y → Over string span w0 → Finds w0 w1 e1 → Finds e1.inside n1 e2 → Finds n1 n2 e3 →
    at.modulus ≡ span_of e2.inside → at.exponent ≡ span_of e3.inside → digits ≡ e2.inside.rest →
    (8 * length digits < 2 ^ 64 → IsBitLength (unsigned_value digits) at.bits) →
    RsaTold k string at
rsa_told string span k slice y w0 w1 n1 n2 e1 e2 e3 digits at covers s over finds1 finds2 finds3 modulus exponent own bits =
    let o = over_within string slice span w0 over covers in
    let j = s.spelled in
    let a = j.fore in
    let b = j.aft in
    let t1 = last_step string 48 s.content w0 w1 e1 o.0 (o.1 ∙ s.bytes) refl finds1 in
    let t2 = step string 2 a.content j.back e1.inside n1 e2 t1.inside (t1.content ∙ j.bytes ∙ ap (λ x. x ++ j.back) a.bytes) refl finds2 in
    let t3 = last_step string 2 b.content n1 n2 e3 t2.next (t2.rest ∙ b.bytes) refl finds3 in
    let m : digits ≡ k.modulus = own ∙ t2.content ∙ a.spelled.0.1 in
    let P : List ℕ → Type 0 = λ x. 8 * length x < 2 ^ 64 → IsBitLength (unsigned_value x) at.bits in
    record {
      modulus = span_covers string k.modulus e2.inside at.modulus t2.inside (t2.content ∙ a.spelled.0.1) modulus;
      exponent = span_covers string k.public_exponent e3.inside at.exponent t3.inside (t3.content ∙ b.spelled.0.1) exponent;
      bits = subst P m bits;
    }

-- ---- what is told
chosen_rsa : {A : Type 0} (t : Bool) (other : KeyKind) (v : PublicKey A) (more : List ℕ) → t ≡ true → KeySays (if t then kinds.Rsa else other) v more → RsaBytes v more
chosen_rsa true other v more e h = h
chosen_rsa false other v more e h = absurd (cc)

pub says_rsa : {A : Type 0} (arcs : List ℕ) (v : PublicKey A) (more : List ℕ) → is_arcs arcs rsa_encryption ≡ true → KeySays (key_kind arcs) v more → RsaBytes v more
says_rsa arcs v more e h = chosen_rsa (is_arcs arcs rsa_encryption) (if is_arcs arcs ec_public_key_algorithm then kinds.Ec else if list_any (is_arcs arcs) ed_algorithms then kinds.Ed else if list_any (is_arcs arcs) mldsa_algorithms then kinds.Mldsa else kinds.Unknown) v more e h

-- a key that isn't one of RSA
pub record NotRsa {A : Type 0} (v : PublicKey A) (more : List ℕ) : Type 0 where
  pub modulus : modulus_in v ≡ None
  pub exponent : exponent_in v ≡ None
  pub bytes : bytes_in v ≡ Some more
  pub size : (algorithm : List ℕ) (curve : Option (List ℕ)) (n : ℕ) → n ≡ size_or algorithm (size_if curve) → SizeTold algorithm curve v n

ec_bytes : {A : Type 0} (v : PublicKey A) (more : List ℕ) → RawBytes key.Ec v more → NotRsa v more
ec_bytes {A} v more r = record { modulus = ap modulus_in r.is; exponent = ap exponent_in r.is; bytes = ap bytes_in r.is ∙ ap Some (sym r.bytes); size = λ algorithm curve n e. (let P : PublicKey A → Type 0 = λ x. SizeTold algorithm curve x n in subst P (sym r.is) e) }

ed_bytes : {A : Type 0} (v : PublicKey A) (more : List ℕ) → RawBytes key.Ed v more → NotRsa v more
ed_bytes {A} v more r = record { modulus = ap modulus_in r.is; exponent = ap exponent_in r.is; bytes = ap bytes_in r.is ∙ ap Some (sym r.bytes); size = λ algorithm curve n e. (let P : PublicKey A → Type 0 = λ x. SizeTold algorithm curve x n in subst P (sym r.is) e) }

mldsa_bytes : {A : Type 0} (v : PublicKey A) (more : List ℕ) → RawBytes key.Mldsa v more → NotRsa v more
mldsa_bytes {A} v more r = record { modulus = ap modulus_in r.is; exponent = ap exponent_in r.is; bytes = ap bytes_in r.is ∙ ap Some (sym r.bytes); size = λ algorithm curve n e. (let P : PublicKey A → Type 0 = λ x. SizeTold algorithm curve x n in subst P (sym r.is) e) }

chosen_other : {A : Type 0} (t a b c : Bool) (v : PublicKey A) (more : List ℕ) → t ≡ false → KeySays (if t then kinds.Rsa else if a then kinds.Ec else if b then kinds.Ed else if c then kinds.Mldsa else kinds.Unknown) v more → NotRsa v more
chosen_other true a b c v more e h = absurd (cc)
chosen_other false true b c v more e h = ec_bytes v more h
chosen_other false false true c v more e h = ed_bytes v more h
chosen_other false false false true v more e h = mldsa_bytes v more h
chosen_other false false false false v more e h = absurd h

pub says_other : {A : Type 0} (arcs : List ℕ) (v : PublicKey A) (more : List ℕ) → is_arcs arcs rsa_encryption ≡ false → KeySays (key_kind arcs) v more → NotRsa v more
says_other arcs v more e h = chosen_other (is_arcs arcs rsa_encryption) (is_arcs arcs ec_public_key_algorithm) (list_any (is_arcs arcs) ed_algorithms) (list_any (is_arcs arcs) mldsa_algorithms) v more e h

span_as : (string bytes : List ℕ) (p q : Span) → q ≡ p → CoversAll string p bytes → CoversAll string q bytes
span_as string bytes p q e k = let P : Span → Type 0 = λ x. CoversAll string x bytes in subst P (sym e) k

-- the same of what may not be there
span_if : (string : List ℕ) (o r : Option (List ℕ)) (p q : Span) → q ≡ p → o ≡ r → CoversIf string p r → CoversIf string q o
span_if string o r p q e same k =
    let P : Span → Type 0 = λ x. CoversIf string x r in
    let Q : Option (List ℕ) → Type 0 = λ x. CoversIf string q x in
    subst Q (sym same) (subst P (sym e) k)

pub told_rsa : {A : Type 0} (string identifier : List ℕ) (v : SubjectPublicKeyInfo A) (algorithm at : Span) (curve : Curve) (rsa : RsaPlaces) (places : KeyPlaces) →
    PartsTold v string identifier algorithm curve at → is_arcs v.algorithm.algorithm rsa_encryption ≡ true →
    ((k : RsaPublicKey A) (slice : List ℕ) (y : Tally) → CoversAll string at slice → rsa_public_key.spelled k slice y → RsaTold k string rsa) →
    places.algorithm ≡ algorithm → places.curve ≡ curve.place → places.bits ≡ rsa.bits → places.modulus ≡ rsa.modulus → places.exponent ≡ rsa.exponent → places.key ≡ no_span →
    KeyTold string v places
told_rsa {A} string identifier v algorithm at curve rsa places p e reads here named size first second none =
    let r = says_rsa v.algorithm.algorithm v.subject_public_key p.key_at.bytes e p.key_at.says in
    let t = reads r.value p.key_at.bytes r.tally p.key_at.covers r.spelled in
    let S : PublicKey A → Type 0 = λ x. SizeTold v.algorithm.algorithm (curve_in v.algorithm.parameters) x places.bits in
    let B : ℕ → Type 0 = λ n. SizeTold v.algorithm.algorithm (curve_in v.algorithm.parameters) (key.Rsa r.value) n in
    record {
      algorithm = span_as string (oid_content v.algorithm.algorithm) algorithm places.algorithm here (covers_as string identifier (oid_content v.algorithm.algorithm) algorithm.start algorithm.end p.algorithm_at p.is_oid.1);
      curve = span_if string (content_if (curve_in v.algorithm.parameters)) (content_if (curve_in v.algorithm.parameters)) curve.place places.curve named refl p.curve_at.place;
      bits = subst S (sym r.is) (subst B (sym size) t.bits);
      modulus = span_if string (modulus_in v.subject_public_key) (Some r.value.modulus) rsa.modulus places.modulus first (ap modulus_in r.is) t.modulus;
      exponent = span_if string (exponent_in v.subject_public_key) (Some r.value.public_exponent) rsa.exponent places.exponent second (ap exponent_in r.is) t.exponent;
      key = span_if string (bytes_in v.subject_public_key) None no_span places.key none (ap bytes_in r.is) refl;
    }

pub told_other : {A : Type 0} (string identifier : List ℕ) (v : SubjectPublicKeyInfo A) (algorithm at : Span) (curve : Curve) (bits : ℕ) (places : KeyPlaces) →
    PartsTold v string identifier algorithm curve at → is_arcs v.algorithm.algorithm rsa_encryption ≡ false →
    ((arcs : List ℕ) → IsOid arcs identifier → bits ≡ size_or arcs curve.size) →
    places.algorithm ≡ algorithm → places.curve ≡ curve.place → places.bits ≡ bits → places.modulus ≡ no_span → places.exponent ≡ no_span → places.key ≡ at →
    KeyTold string v places
told_other string identifier v algorithm at curve bits places p e sized here named size first second own =
    let r = says_other v.algorithm.algorithm v.subject_public_key p.key_at.bytes e p.key_at.says in
    record {
      algorithm = span_as string (oid_content v.algorithm.algorithm) algorithm places.algorithm here (covers_as string identifier (oid_content v.algorithm.algorithm) algorithm.start algorithm.end p.algorithm_at p.is_oid.1);
      curve = span_if string (content_if (curve_in v.algorithm.parameters)) (content_if (curve_in v.algorithm.parameters)) curve.place places.curve named refl p.curve_at.place;
      bits = r.size v.algorithm.algorithm (curve_in v.algorithm.parameters) places.bits (size ∙ sized v.algorithm.algorithm p.is_oid ∙ ap (size_or v.algorithm.algorithm) p.curve_at.size);
      modulus = span_if string (modulus_in v.subject_public_key) None no_span places.modulus first r.modulus refl;
      exponent = span_if string (exponent_in v.subject_public_key) None no_span places.exponent second r.exponent refl;
      key = span_if string (bytes_in v.subject_public_key) (Some p.key_at.bytes) at places.key own r.bytes p.key_at.covers;
    }
