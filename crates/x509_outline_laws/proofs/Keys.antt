-- A public key has an outline: keys of every kind are bits.
use Rattle.std.proofs.Common.{◌≡◌, ℕ, suc, List, ◌∷◌, ◌++◌, refl, ap, sym, ◌∙◌, subst}
use Rattle.x509_der.specs.BitString.{bit_strings, bit_content, used}
use Rattle.x509_der.specs.Element.{AreBytes}
use Rattle.x509_der.specs.Tagged.{tagged}
use Rattle.x509_der.specs.Tally.{Tally, none}
use Rattle.x509_der.specs.facts.BitString.{content-used, pads_all}
use Rattle.x509_keys.specs.KeyKinds.{key_kind}
use Rattle.x509_keys.specs.PublicKeys.{public_by_kind, rsa_bits, key_bits}
use Rattle.x509_keys.specs.SubjectPublicKeyInfos.{subject_public_key_info}
use Rattle.x509_keys_parts.specs.declared.key_kind.KeyKind.{KeyKind}
use Rattle.x509_keys_parts.specs.declared.key_kind.KeyKind.TheVariants as kinds
use Rattle.x509_keys.specs.declared.public_key.PublicKey.{PublicKey}
use Rattle.x509_keys.specs.declared.rsa_public_key.RsaPublicKey.{RsaPublicKey}
use Rattle.x509_outline_parts.specs.Algorithms.{algorithm}
use Rattle.x509_outline_parts.specs.PublicKeys as keys
use Rattle.x509_outline_laws.specs.Frames.{IsRead, SameKey}
use Rattle.x509_outline_laws.proofs.Carrying.{Carries, both, within, bytes_first, bytes_second, bytes_content}
use Rattle.x509_outline_laws.proofs.Algorithms.{algorithm_carries}

-- whole bytes are bits, of which none is unused
whole_bytes : (content rest : List ℕ) → content ≡ 0 ∷ rest → AreBytes content → content ≡ bit_content (used rest 0)
whole_bytes content rest e h = e ∙ sym (content-used rest 0 (pads_all rest).padded (λ k. (subst AreBytes e h) (suc k)))

-- the bits of an RSA key
rsa_read : {A : Type 0} (k : RsaPublicKey A) (p : List ℕ) (y : Tally) → AreBytes p → (rsa_bits {A = A}).spelled k p y → IsRead key_bits p
rsa_read k p y h a =
    let j = a.spelled in
    let e : a.content ≡ 0 ∷ j.back = j.bytes ∙ ap (λ x. x ++ j.back) j.fore.0 in
    let v = used j.back 0 in
    let b = whole_bytes a.content j.back e (bytes_content 3 a.content p a.bytes h) in
    record { value = v; reads = within 3 bit_strings v a.content p a.bytes (record { tally = none; spelled = (b, refl) }) }

key_read : {A : Type 0} (k : KeyKind) (v : PublicKey A) (p : List ℕ) (y : Tally) → AreBytes p → (public_by_kind k).spelled v p y → IsRead key_bits p
key_read kinds.Rsa v p y h a = rsa_read a.payload p y h a.spelled
key_read kinds.Ec v p y h a = record { value = a.payload; reads = record { tally = y; spelled = a.spelled } }
key_read kinds.Ed v p y h a = record { value = a.payload; reads = record { tally = y; spelled = a.spelled } }
key_read kinds.Mldsa v p y h a = record { value = a.payload; reads = record { tally = y; spelled = a.spelled } }
key_read kinds.Unknown v p y h a = absurd a

pub key_carries : {A : Type 0} → Carries (subject_public_key_info {A = A}) (keys.public_key {A = A}) SameKey
key_carries v p y h s =
    let j = s.spelled in
    let c = bytes_content 48 s.content p s.bytes h in
    let a = algorithm_carries v.algorithm j.front j.first (bytes_first j.front j.back s.content j.bytes c) j.fore in
    let k = key_read (key_kind v.algorithm.algorithm) v.subject_public_key j.back j.second (bytes_second j.front j.back s.content j.bytes c) j.aft in
    let i = both algorithm (tagged 3 bit_strings) a.value k.value j.front j.back s.content j.bytes a.reads k.reads in
    let w = within 48 keys.key_inner (a.value, k.value) s.content p s.bytes i in
    record {
      value = record { algorithm = a.value; subject_public_key = k.value };
      reads = record { tally = w.tally; spelled = w.spelled };
      related = a.related;
    }
