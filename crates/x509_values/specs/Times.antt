-- The second that a time says.
use Rattle.x509_prim.specs.Calendar.{Moment}
use Rattle.x509_names.specs.Types.{Time}
use Rattle.x509_names.specs.Types.time.{Utc, Generalized}

abbrev pub moment_in : Time → Moment
moment_in (Utc t) = t
moment_in (Generalized t) = t
