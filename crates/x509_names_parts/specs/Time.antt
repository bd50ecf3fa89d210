-- The two forms of a time (RFC 5280, 4.1.2.5).
use Rattle.std.specs.Prelude.{ℕ, List}
use Rattle.x509_der.specs.Types.{Choice}
use Rattle.x509_der.specs.Types.choice.{First, Second}
use Rattle.x509_names_parts.specs.declared.time.Time.{Time}
use Rattle.x509_names_parts.specs.declared.time.Time.TheVariants.{Utc, Generalized}
use Rattle.x509_der.specs.Tally.{Tally}
use Rattle.x509_der.specs.Shape.{Shape}
use Rattle.x509_der.specs.Fields.{Stands}
use Rattle.x509_der.specs.Tagged.{tagged}
use Rattle.x509_der.specs.Choice.{choice}
use Rattle.x509_der.specs.Structure.{structure}
use Rattle.x509_prim.specs.Calendar.{Moment}
use Rattle.x509_prim.specs.Times.{utc_times, generalized_times}

abbrev pub time_parts : Time → Choice Moment Moment
time_parts (Utc t) = First t
time_parts (Generalized t) = Second t

-- UTCTime
abbrev pub utc : Shape Moment
utc = tagged 23 utc_times

-- GeneralizedTime
abbrev pub generalized : Shape Moment
generalized = tagged 24 generalized_times

-- Time ::= CHOICE { utcTime UTCTime, generalTime GeneralizedTime }
abbrev pub time_base : Shape (Choice Moment Moment)
time_base = choice utc generalized

abbrev pub time : Shape Time
time = structure time_parts time_base

-- the form that was taken
abbrev pub FormAt : Time → List ℕ → Tally → Type 0
FormAt (Utc t) string y = Stands utc t 0 string string y
FormAt (Generalized t) string y = Stands generalized t 0 string string y
