-- Where the numbers of an RSA key stand.
use Rattle.std.proofs.Common.{◌≡◌, ◌∙◌, ap, sym, subst, ℕ, ◌+◌, List, [], ◌∷◌, ◌++◌, length, arith}
use Rattle.x509_der.specs.Element.{element, header}
use Rattle.x509_der.specs.Fields.{FieldAt, Stands}
use Rattle.x509_der.specs.Tally.{Tally}
use Rattle.x509_keys.specs.declared.public_key.PublicKey.{PublicKey}
use Rattle.x509_keys.specs.declared.rsa_public_key.RsaPublicKey.{RsaPublicKey}
use Rattle.x509_keys.specs.KeyPlaces.{RsaNumbersAt}
use Rattle.x509_keys.specs.PublicKeys.{public_by_kind}
use Rattle.x509_keys.specs.RsaPublicKeys.{number}
use Rattle.x509_keys_parts.specs.declared.key_kind.KeyKind.TheVariants as kinds
use Rattle.x509_keys.specs.declared.public_key.PublicKey.TheVariants as key

abbrev rsa_or : {A : Type 0} → RsaPublicKey A → PublicKey A → RsaPublicKey A
rsa_or u (key.Rsa w) = w
rsa_or u w = u

pub rsa_numbers : {A : Type 0} (k : RsaPublicKey A) (n : ℕ) (slice string : List ℕ) (y : Tally) → Stands (public_by_kind kinds.Rsa) (key.Rsa k) n slice string y → RsaNumbersAt k n slice string y
rsa_numbers {A} k n slice string y a =
    let p = a.parts in
    let c = p.inner.parts in
    let j = c.inner.parts in
    let f : j.front ≡ 0 ∷ [] = j.first.parts in
    let q = j.second.parts in
    let r = q.inner.parts in
    let e : c.content ≡ 0 ∷ element 48 q.content = j.bytes ∙ ap (λ x. x ++ j.back) f ∙ ap (λ x. 0 ∷ x) q.bytes in
    let z : ((n + header c.content) + length j.front) + header q.content ≡ ((n + header (0 ∷ element 48 q.content)) + 1) + header q.content = omega (arith, ap header e, ap length f) in
    let P : RsaPublicKey A → Type 0 = λ u. RsaNumbersAt u n slice string y in
    subst P (sym (ap (rsa_or k) p.is)) (record {
      content = q.content;
      bytes = c.bytes ∙ ap (element 3) e;
      moduli = r.front;
      exponents = r.back;
      numbers = r.bytes;
      modulus_at = subst (λ m. FieldAt number p.payload.modulus m r.front string y) z r.first.field;
      exponent_at = subst (λ m. FieldAt number p.payload.public_exponent (m + length r.front) r.back string y) z r.second.field;
    })
