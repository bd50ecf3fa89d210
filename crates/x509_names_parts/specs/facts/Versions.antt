-- What a number means as a version keeps the laws.
use Rattle.std.proofs.Common.{◌≡◌, refl, ap, ℕ, zero, suc, Option, Some, None, arith}
use Rattle.std.proofs.lemmas.Bool.Decides.{nat_tests}
use Rattle.x509_names_parts.specs.declared.version.Version.{Version}
use Rattle.x509_names_parts.specs.declared.version.Version.TheVariants.{V1, V2, V3}
use Rattle.x509_der.specs.SmallInteger.{small_integers}
use Rattle.x509_der.specs.laws.SmallInteger.{small_integer_lawful}
use Rattle.x509_der.specs.Shape.{Lawful}
use Rattle.x509_der.specs.laws.Meaning.{IsMeaning, tagged_markable}
use Rattle.x509_der.specs.laws.Tagged.{tagged_lawful}
use Rattle.x509_der.specs.View.{IsSeen}
use Rattle.x509_der.specs.facts.Partly.{partly_is, partly_seen}
use Rattle.x509_names_parts.specs.Versions.{version_number, version_of, version_base, version_meaning}

there : (v : Version) → version_of (version_number v) ≡ Some v
there V1 = refl
there V2 = refl
there V3 = refl

none_above : (n : ℕ) → version_of (suc (suc (suc n))) ≡ None
none_above n = grind (arith, nat_tests)

some_one : (v w : Version) → ◌≡◌ {A = Option Version} (Some v) (Some w) → v ≡ w
some_one v w e = cc

again : (n : ℕ) (v : Version) → version_of n ≡ Some v → n ≡ version_number v
again zero v e = ap version_number (some_one V1 v e)
again (suc zero) v e = ap version_number (some_one V2 v e)
again (suc (suc zero)) v e = ap version_number (some_one V3 v e)
again (suc (suc (suc n))) v e = let h = none_above n in cc

pub version_is : IsMeaning version_meaning version_base
version_is = partly_is version_of version_number version_base there again

pub version_keeps : Lawful version_base × IsSeen version_meaning version_base
version_keeps = (tagged_lawful 2 small_integers small_integer_lawful, partly_seen version_of version_number version_base there again (tagged_markable 2 small_integers small_integer_lawful))
