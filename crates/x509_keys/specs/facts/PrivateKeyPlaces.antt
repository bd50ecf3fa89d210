-- Where the parts of private keys stand, and the numbers of RSA keys.
use Rattle.std.proofs.Common.{◌∙◌, ap, sym, subst, refl, ℕ, ◌+◌, List, [], ◌∷◌, ◌++◌, length}
use Rattle.std.proofs.lemmas.List.{append-nil}
use Rattle.x509_der.specs.Element.{header}
use Rattle.x509_der.specs.Fields.{Stands}
use Rattle.x509_der.specs.PrimitiveContent.{octets}
use Rattle.x509_der.specs.Shape.{Shape}
use Rattle.x509_der.specs.Tagged.{ContentAt, tagged}
use Rattle.x509_der.specs.Tally.{Tally}
use Rattle.x509_keys.specs.declared.ec_private_key.ECPrivateKey.{ECPrivateKey}
use Rattle.x509_keys.specs.declared.private_key_value.PrivateKeyValue.{PrivateKeyValue}
use Rattle.x509_keys.specs.declared.rsa_private_key.RsaPrivateKey.{RsaPrivateKey}
use Rattle.x509_keys.specs.declared.rsa_public_key.RsaPublicKey.{RsaPublicKey}
use Rattle.x509_keys.specs.EcPrivateKeys.{EcFields, ec_key_of, ec_private_key}
use Rattle.x509_keys.specs.KeyPlaces.{NumbersAt, RsaPublicAt, RsaPrivateAt, EcPrivateAt}
use Rattle.x509_keys.specs.PrivateKeyValues.{private_by_kind}
use Rattle.x509_keys.specs.RsaPrivateKeys.{Number, number_and, rsa_private_key}
use Rattle.x509_keys.specs.RsaPublicKeys.{number, rsa_public_key}
use Rattle.x509_keys.specs.facts.EcPrivateKeys.{means_ec_key}
use Rattle.x509_keys_parts.specs.declared.key_kind.KeyKind.TheVariants as kinds
use Rattle.x509_keys.specs.declared.private_key_value.PrivateKeyValue.TheVariants as key

abbrev rsa_or : {A : Type 0} → RsaPrivateKey A → PrivateKeyValue A → RsaPrivateKey A
rsa_or u (key.Rsa w) = w
rsa_or u w = u

abbrev ec_or : {A : Type 0} → ECPrivateKey A → PrivateKeyValue A → ECPrivateKey A
ec_or u (key.EC w) = w
ec_or u w = u

abbrev ed_or : {A : Type 0} → List ℕ → PrivateKeyValue A → List ℕ
ed_or u (key.ED w) = w
ed_or u w = u

pub rsa_inside : {A : Type 0} (k : RsaPrivateKey A) (n : ℕ) (slice string : List ℕ) (y : Tally) → Stands (private_by_kind kinds.Rsa) (key.Rsa k) n slice string y → ContentAt 4 rsa_private_key k n slice string y
rsa_inside {A} k n slice string y a =
    let P : RsaPrivateKey A → Type 0 = λ u. ContentAt 4 rsa_private_key u n slice string y in
    subst P (sym (ap (rsa_or k) a.parts.is)) a.parts.inner.parts

pub ec_inside : {A : Type 0} (k : ECPrivateKey A) (n : ℕ) (slice string : List ℕ) (y : Tally) → Stands (private_by_kind kinds.Ec) (key.EC k) n slice string y → ContentAt 4 ec_private_key k n slice string y
ec_inside {A} k n slice string y a =
    let P : ECPrivateKey A → Type 0 = λ u. ContentAt 4 ec_private_key u n slice string y in
    subst P (sym (ap (ec_or k) a.parts.is)) a.parts.inner.parts

pub ed_inside : {A : Type 0} (k : List ℕ) (n : ℕ) (slice string : List ℕ) (y : Tally) → Stands (private_by_kind {A = A} kinds.Ed) (key.ED k) n slice string y → ContentAt 4 (tagged 4 octets) k n slice string y
ed_inside k n slice string y a =
    let P : List ℕ → Type 0 = λ u. ContentAt 4 (tagged 4 octets) u n slice string y in
    subst P (sym (ap (ed_or k) a.parts.is)) a.parts.inner.parts

-- one number fills its slice
last_number : (v : Number) (n : ℕ) (slice string : List ℕ) (y : Tally) → Stands number v n slice string y → NumbersAt (v ∷ []) n slice string y
last_number v n slice string y a = record { front = slice; back = []; bytes = sym (append-nil slice); first = a.field; second = refl }

-- a number, and those that stand behind it
more_numbers : {V : Type 0} (rest : Shape V) (v : Number) (x : V) (vs : List Number) (string : List ℕ) (y : Tally) → ((m : ℕ) (p : List ℕ) → Stands rest x m p string y → NumbersAt vs m p string y) → (n : ℕ) (slice : List ℕ) → Stands (number_and rest) (v, x) n slice string y → NumbersAt (v ∷ vs) n slice string y
more_numbers rest v x vs string y f n slice a =
    let b = a.parts in
    record { front = b.front; back = b.back; bytes = b.bytes; first = b.first.field; second = f (n + length b.front) b.back b.second }

pub rsa_public_numbers : {A : Type 0} (k : RsaPublicKey A) (n : ℕ) (slice string : List ℕ) (y : Tally) → Stands rsa_public_key k n slice string y → RsaPublicAt k n slice string y
rsa_public_numbers k n slice string y a =
    let c = a.parts in
    let last = λ (m : ℕ) (p : List ℕ). last_number k.public_exponent m p string y in
    record { content = c.content; bytes = c.bytes; numbers_at = more_numbers _ k.modulus _ (k.public_exponent ∷ []) string y last (n + header c.content) c.content c.inner }

pub rsa_private_numbers : {A : Type 0} (k : RsaPrivateKey A) (n : ℕ) (slice string : List ℕ) (y : Tally) → Stands rsa_private_key k n slice string y → RsaPrivateAt k n slice string y
rsa_private_numbers k n slice string y a =
    let c = a.parts in
    let last = λ (m : ℕ) (p : List ℕ). last_number k.coefficient m p string y in
    let seven = more_numbers _ k.exponent_2 _ (k.coefficient ∷ []) string y last in
    let six = more_numbers _ k.exponent_1 _ (k.exponent_2 ∷ k.coefficient ∷ []) string y seven in
    let five = more_numbers _ k.prime_2 _ (k.exponent_1 ∷ k.exponent_2 ∷ k.coefficient ∷ []) string y six in
    let four = more_numbers _ k.prime_1 _ (k.prime_2 ∷ k.exponent_1 ∷ k.exponent_2 ∷ k.coefficient ∷ []) string y five in
    let three = more_numbers _ k.private_exponent _ (k.prime_1 ∷ k.prime_2 ∷ k.exponent_1 ∷ k.exponent_2 ∷ k.coefficient ∷ []) string y four in
    let two = more_numbers _ k.public_exponent _ (k.private_exponent ∷ k.prime_1 ∷ k.prime_2 ∷ k.exponent_1 ∷ k.exponent_2 ∷ k.coefficient ∷ []) string y three in
    let one = more_numbers _ k.modulus _ (k.public_exponent ∷ k.private_exponent ∷ k.prime_1 ∷ k.prime_2 ∷ k.exponent_1 ∷ k.exponent_2 ∷ k.coefficient ∷ []) string y two in
    record { content = c.content; bytes = c.bytes; numbers_at = more_numbers _ k.version _ (k.modulus ∷ k.public_exponent ∷ k.private_exponent ∷ k.prime_1 ∷ k.prime_2 ∷ k.exponent_1 ∷ k.exponent_2 ∷ k.coefficient ∷ []) string y one (n + header c.content) c.content c.inner }

pub ec_private_fields : {A : Type 0} (k : ECPrivateKey A) (n : ℕ) (slice string : List ℕ) (y : Tally) → Stands ec_private_key k n slice string y → EcPrivateAt k n slice string y
ec_private_fields {A} k n slice string y a =
    let b = a.parts in
    let s = b.parts in
    let j = s.inner.parts in
    let l = j.second.parts in
    let o = l.second.parts in
    let P : EcFields A → Type 0 = λ f. EcPrivateAt (ec_key_of f) n slice string y in
    subst P (means_ec_key b.base k b.kinds b.means).1.0 (record {
      content = s.content;
      bytes = s.bytes;
      versions = j.front;
      secrets = l.front;
      curves = o.front;
      points = o.back;
      fields = j.bytes ∙ ap (λ x. j.front ++ x) (l.bytes ∙ ap (λ x. l.front ++ x) o.bytes);
      version_at = j.first.field;
      secret_at = l.first.field;
      curve_at = o.first.parts;
      point_at = o.second.parts;
    })
