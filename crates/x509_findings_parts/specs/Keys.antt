-- What is asked of the numbers in an RSA public key (RFC 8017, 3.1).
use Rattle.std.specs.Prelude.{◌≤◌, length}
use Rattle.x509_keys.specs.declared.public_key.PublicKey.{PublicKey}
use Rattle.x509_keys.specs.declared.public_key.PublicKey.TheVariants.{Rsa, Ec, Ed, Mldsa}
use Rattle.x509_keys.specs.declared.rsa_public_key.RsaPublicKey.{RsaPublicKey}
use Rattle.x509_findings_parts.specs.Numbers.{IsBelow, IsEven}

-- the key is one of RSA, and of this kind
abbrev pub OfRsa : {A : Type 0} → (RsaPublicKey A → Type 0) → PublicKey A → Type 0
OfRsa Is (Rsa key) = Is key
OfRsa Is (Ec point) = ⊥
OfRsa Is (Ed point) = ⊥
OfRsa Is (Mldsa key) = ⊥

-- the modulus is a product of primes, so that it is positive
abbrev pub HasLowModulus : {A : Type 0} → PublicKey A → Type 0
HasLowModulus key = OfRsa (λ k. IsBelow k.modulus 1) key

-- and the primes are odd
abbrev pub HasEvenModulus : {A : Type 0} → PublicKey A → Type 0
HasEvenModulus key = OfRsa (λ k. IsEven k.modulus) key

-- fewer than 2,048 bits: in two's complement with its sign bit (X.690, 8.3.3), 256 octets hold the numbers up to 2^2047 - 1
abbrev pub HasShortModulus : {A : Type 0} → PublicKey A → Type 0
HasShortModulus key = OfRsa (λ k. length k.modulus ≤ 256) key

-- the public exponent is from 3 to the modulus less 1
abbrev pub HasLowExponent : {A : Type 0} → PublicKey A → Type 0
HasLowExponent key = OfRsa (λ k. IsBelow k.public_exponent 3) key

-- it has no divisor in common with what the primes less 1 divide, which is even
abbrev pub HasEvenExponent : {A : Type 0} → PublicKey A → Type 0
HasEvenExponent key = OfRsa (λ k. IsEven k.public_exponent) key
