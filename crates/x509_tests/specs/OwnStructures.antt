-- Two structures of the tests, as a user's own are written: their grammars, and what tells their fields apart.
use Rattle.std.proofs.Common.{◌≡◌, ℕ, Bool, true, false, ◌||◌, eqb, List, Option, arith}
use Rattle.std.proofs.lemmas.Bool.Decides.{nat_tests}
use Rattle.x509_der.specs.Boolean.{booleans}
use Rattle.x509_der.specs.Join.{join}
use Rattle.x509_der.specs.Optional.{optional}
use Rattle.x509_der.specs.PrimitiveContent.{octets}
use Rattle.x509_der.specs.Shape.{Shape}
use Rattle.x509_der.specs.SmallInteger.{small_integers}
use Rattle.x509_der.specs.Tagged.{tagged}
use Rattle.x509_prim.specs.CharSets.{are_printable, are_ascii, are_pairs}
use Rattle.x509_prim.specs.Texts.{Passes, texts, utf8_texts}
use Rattle.x509_prim.specs.Calendar.{Moment}
use Rattle.x509_prim.specs.Times.{utc_times, generalized_times}

abbrev pub Options : Type 0
Options = Option ℕ × (Option Bool × Option (List ℕ))

-- SEQUENCE { number [0] EXPLICIT INTEGER (0..255) OPTIONAL, flag [1] EXPLICIT BOOLEAN OPTIONAL, octets [2] IMPLICIT OCTET
-- STRING OPTIONAL }
abbrev pub options : Shape Options
options = tagged 48 (join (λ j. j.0) (λ j. j.1) (optional (tagged 160 (tagged 2 small_integers))) (join (λ j. j.0) (λ j. j.1) (optional (tagged 161 (tagged 1 booleans))) (optional (tagged 130 octets))))

-- the octets are told from the flag, and both from the number
pub octets_apart : (c : ℕ) → eqb c 130 ≡ true → (false || eqb c 161) ≡ false
octets_apart c h = grind (arith, nat_tests)

pub flag_apart : (c : ℕ) → (eqb c 161 || eqb c 130) ≡ true → (false || eqb c 160) ≡ false
flag_apart c h = grind (arith, nat_tests)

abbrev pub Letter : Type 0
Letter = List ℕ × (List ℕ × (List ℕ × (List ℕ × (Moment × (Moment × ℕ)))))

-- SEQUENCE { printable PrintableString, ascii IA5String, pairs BMPString, text UTF8String, sent UTCTime, received
-- GeneralizedTime, number INTEGER (0..255) }
abbrev pub letter : Shape Letter
letter = tagged 48 (join (λ j. j.0) (λ j. j.1) (tagged 19 (texts (Passes are_printable))) (join (λ j. j.0) (λ j. j.1) (tagged 22 (texts (Passes are_ascii))) (join (λ j. j.0) (λ j. j.1) (tagged 30 (texts (Passes are_pairs))) (join (λ j. j.0) (λ j. j.1) (tagged 12 utf8_texts) (join (λ j. j.0) (λ j. j.1) (tagged 23 utc_times) (join (λ j. j.0) (λ j. j.1) (tagged 24 generalized_times) (tagged 2 small_integers)))))))
