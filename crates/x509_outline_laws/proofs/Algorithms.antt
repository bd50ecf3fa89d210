-- An algorithm identifier has an outline: parameters of every kind are one element, or there are none.
use Rattle.std.proofs.Common.{◌≡◌, ℕ, ◌⊎◌, inl, inr, List, [], Option, Some, None, refl, ap, lit<}
use Rattle.x509_der.specs.Element.{AreBytes, IsRaw}
use Rattle.x509_der.specs.ObjectIdentifier.{oids}
use Rattle.x509_der.specs.Optional.{Optional, optional}
use Rattle.x509_der.specs.PrimitiveContent.{nothing, octets}
use Rattle.x509_der.specs.RawElement.{raws}
use Rattle.x509_der.specs.Tagged.{tagged}
use Rattle.x509_der.specs.Tally.{Tally}
use Rattle.x509_keys.specs.AesParameters.{aes_parameters}
use Rattle.x509_keys.specs.AlgorithmIdentifier.{Algorithm, algorithm_identifier, identified, with_null, lacks_null, kinds_if}
use Rattle.x509_keys.specs.AlgorithmKinds.{kind_of}
use Rattle.x509_keys.specs.AlgorithmParameters.{by_kind}
use Rattle.x509_keys.specs.HashAlgorithms.{null}
use Rattle.x509_keys.specs.RsassaPss.{pss_inner}
use Rattle.x509_keys_parts.specs.declared.aes.AesParameters.{AesParameters}
use Rattle.x509_keys_parts.specs.declared.aes.AesParameters.TheVariants.{Null, InitializationVector, AuthenticatedEncryptionParameters}
use Rattle.x509_keys_parts.specs.declared.algorithm_parameters.AlgorithmIdentifierParameters.{AlgorithmIdentifierParameters}
use Rattle.x509_keys_parts.specs.declared.algorithm_parameters.AlgorithmKind.{AlgorithmKind}
use Rattle.x509_keys_parts.specs.declared.algorithm_parameters.AlgorithmKind.TheVariants as kinds
use Rattle.x509_outline_parts.specs.Algorithms.{algorithm, algorithm_inner}
use Rattle.x509_outline_laws.specs.Frames.{Reads, SameIdentifier}
use Rattle.x509_outline_laws.proofs.Carrying.{Carries, absent, there, as_it_is, both, within, under_tag, bytes_second, bytes_content, found_value}

-- no bytes, or one element
abbrev pub AtMostOne : List ℕ → Type 0
AtMostOne p = (p ≡ []) ⊎ IsRaw p

null_one : (o : Option (Unit {0})) (p : List ℕ) (y : Tally) → Optional null o p y → AtMostOne p
null_one None p y a = inl a.0
null_one (Some u) p y a = inr (under_tag 5 nothing u p y refl (lit< tt) a)

aes_one : {A : Type 0} (o : Option (AesParameters A)) (p : List ℕ) (y : Tally) → Optional (aes_parameters {A = A}) o p y → AtMostOne p
aes_one None p y a = inl a.0
aes_one (Some Null) p y a = inr (under_tag 5 nothing tt p y refl (lit< tt) a)
aes_one (Some (InitializationVector v)) p y a = inr (under_tag 4 octets v p y refl (lit< tt) a)
aes_one (Some (AuthenticatedEncryptionParameters v)) p y a = inr (record { tag = 48; content = a.content; fits = refl; byte = lit< tt; bytes = a.bytes })

-- so it is with each kind of algorithms
parameters_one : {A : Type 0} (k : AlgorithmKind) (v : AlgorithmIdentifierParameters A) (p : List ℕ) (y : Tally) → (by_kind k).spelled v p y → AtMostOne p
parameters_one kinds.Rsa v p y a = null_one a.payload p y a.spelled
parameters_one {A} kinds.RsassaPss v p y a = inr (under_tag 48 (pss_inner {A = A}) a.spelled.base p a.spelled.part refl (lit< tt) a.spelled.spelled)
parameters_one kinds.EcPublicKey v p y a = inr (record { tag = 6; content = a.spelled.content; fits = refl; byte = lit< tt; bytes = a.spelled.bytes })
parameters_one kinds.Bare v p y a = inl a.spelled.0
parameters_one kinds.Aes v p y a = aes_one a.payload p y a.spelled
parameters_one kinds.Hash v p y a = inr (under_tag 5 nothing a.payload p y refl (lit< tt) a.spelled)
parameters_one kinds.Unknown v p y a = absurd a

-- that element, if there is one
record Parameters (p : List ℕ) : Type 0 where
  pub value : Option (List ℕ)
  pub reads : Reads (optional raws) value p

kept : (p : List ℕ) → AreBytes p → AtMostOne p → Parameters p
kept p h (inl e) = record { value = None; reads = absent raws p e }
kept p h (inr r) = record { value = Some p; reads = there raws p p (as_it_is p h r) }

pub algorithm_carries : {A : Type 0} → Carries (algorithm_identifier {A = A}) (algorithm {A = A}) SameIdentifier
algorithm_carries v p y h a =
    let s = a.spelled in
    let j = s.spelled in
    let b = a.base in
    let c = bytes_content 48 s.content p s.bytes h in
    let k = kept j.back (bytes_second j.front j.back s.content j.bytes c) (parameters_one (kind_of b.0) b.1 j.back j.second j.aft) in
    let i = both (tagged 6 oids) (optional raws) b.0 k.value j.front j.back s.content j.bytes (record { tally = j.first; spelled = j.fore }) k.reads in
    let w = within 48 algorithm_inner (b.0, k.value) s.content p s.bytes i in
    let e = found_value (identified b.0 (with_null (lacks_null b) b.1)) v (kinds_if (lacks_null b)) a.kinds a.means in
    record {
      value = record { algorithm = b.0; parameters = k.value };
      reads = record { tally = w.tally; spelled = w.spelled };
      related = ap (λ (x : Algorithm _). x.algorithm) e;
    }
