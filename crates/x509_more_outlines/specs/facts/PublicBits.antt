-- The two forms of a public key beside a private key.
use Rattle.std.proofs.Common.{◌≡◌, ℕ, eqb, true, false, refl, arith}
use Rattle.std.proofs.lemmas.Bool.Decides.{nat_tests}
use Rattle.x509_der.specs.Types.{Choice}
use Rattle.x509_der.specs.Types.choice.{First, Second}
use Rattle.x509_der.specs.facts.Lists.{same_one}
use Rattle.x509_more_outlines.specs.PublicBits.{Bits, bits_parts}
use Rattle.x509_more_outlines.specs.declared.public_bits_outline.PublicBitsOutline.{PublicBitsOutline}
use Rattle.x509_more_outlines.specs.declared.public_bits_outline.PublicBitsOutline.TheVariants.{Implicit, Explicit}

abbrev pub bits_of : {A : Type 0} → Choice Bits Bits → PublicBitsOutline A
bits_of (First b) = Implicit b
bits_of (Second b) = Explicit b

bits_made : {A : Type 0} (v : PublicBitsOutline A) → bits_of (bits_parts v) ≡ v
bits_made (Implicit b) = refl
bits_made (Explicit b) = refl

pub bits_same : {A : Type 0} (v w : PublicBitsOutline A) → bits_parts v ≡ bits_parts w → v ≡ w
bits_same = same_one bits_parts bits_of bits_made

pub bits_whole : (A : Type 0) (f : Choice Bits Bits) → bits_parts (bits_of {A = A} f) ≡ f
bits_whole A (First b) = refl
bits_whole A (Second b) = refl

pub bits_apart : (c : ℕ) → eqb c 129 ≡ true → eqb c 161 ≡ false
bits_apart c h = grind (arith, nat_tests)
