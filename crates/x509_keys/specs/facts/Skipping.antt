-- Fields among which an element may be passed over keep the laws.
use Rattle.std.specs.Prelude.{◌≡◌, refl, ℕ, Bool}
use Rattle.x509_der.specs.facts.Lists.{same_pair}
use Rattle.x509_der.specs.Shape.{Shape, Lawful}
use Rattle.x509_der.specs.Join.{Apart}
use Rattle.x509_der.specs.Optional.{optional}
use Rattle.x509_der.specs.RawIn.{raws_in}
use Rattle.x509_der.specs.laws.Join.{join_lawful}
use Rattle.x509_der.specs.laws.NotEmpty.{full}
use Rattle.x509_der.specs.laws.Optional.{Full, optional_lawful}
use Rattle.x509_der.specs.laws.RawIn.{raws_in_lawful, raws_in_element}
use Rattle.x509_keys.specs.Skipping.{skip_before, skip_between, skipping, Told}

pub skip_full : (keep : ℕ → Bool) → Full (raws_in keep)
skip_full keep = full (raws_in keep) (raws_in_element keep)

pub skip_lawful : (keep : ℕ → Bool) → Lawful (optional (raws_in keep))
skip_lawful keep = optional_lawful (raws_in keep) (raws_in_lawful keep) (skip_full keep)

-- a pair is its two parts
pub pair_whole : {V W : Type 0} (x y : V × W) → x.0 ≡ y.0 → x.1 ≡ y.1 → x ≡ y
pair_whole = same_pair (λ j. j.0) (λ j. j.1) (λ a b. (a, b)) (λ x. refl)

pub skip_before_lawful : {W : Type 0} (keep : ℕ → Bool) (g : Shape W) → Lawful g → Apart (optional (raws_in keep)) g → Lawful (skip_before keep g)
skip_before_lawful keep g l t = join_lawful (optional (raws_in keep)) g (skip_lawful keep) l t (λ j. j.0) (λ j. j.1) pair_whole

pub skip_between_lawful : {V W : Type 0} (f : Shape V) (keep : ℕ → Bool) (g : Shape W) → Lawful f → Lawful g → Apart f (skip_before keep g) → Apart (optional (raws_in keep)) g → Lawful (skip_between f keep g)
skip_between_lawful f keep g k l s t = join_lawful f (skip_before keep g) k (skip_before_lawful keep g l t) s (λ j. j.0) (λ j. j.1) pair_whole

pub skipping_lawful : {U V W : Type 0} (e : Shape U) (f : Shape V) (keep : ℕ → Bool) (g : Shape W) → Lawful e → Lawful f → Lawful g → Told e f keep g → Lawful (skipping e f keep g)
skipping_lawful e f keep g j k l t = join_lawful e (skip_between f keep g) j (skip_between_lawful f keep g k l t.second t.skipped) t.first (λ j. j.0) (λ j. j.1) pair_whole
