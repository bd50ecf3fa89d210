-- The two forms of a time.
use Rattle.std.proofs.Common.{◌≡◌, refl, ℕ, eqb, true, false, arith}
use Rattle.std.proofs.lemmas.Bool.Decides.{nat_tests}
use Rattle.x509_der.specs.Types.{Choice}
use Rattle.x509_der.specs.Types.choice.{First, Second}
use Rattle.x509_names_parts.specs.declared.time.Time.{Time}
use Rattle.x509_names_parts.specs.declared.time.Time.TheVariants.{Utc, Generalized}
use Rattle.x509_der.specs.facts.Lists.{same_one}
use Rattle.x509_prim.specs.Calendar.{Moment}
use Rattle.x509_names_parts.specs.Time.{time_parts}

abbrev pub time_of : Choice Moment Moment → Time
time_of (First t) = Utc t
time_of (Second t) = Generalized t

time_made : (v : Time) → time_of (time_parts v) ≡ v
time_made (Utc t) = refl
time_made (Generalized t) = refl

pub time_whole : (f : Choice Moment Moment) → time_parts (time_of f) ≡ f
time_whole (First t) = refl
time_whole (Second t) = refl

pub time_same : (v w : Time) → time_parts v ≡ time_parts w → v ≡ w
time_same = same_one time_parts time_of time_made

pub times_apart : (c : ℕ) → eqb c 23 ≡ true → eqb c 24 ≡ false
times_apart c h = grind (arith, nat_tests)
