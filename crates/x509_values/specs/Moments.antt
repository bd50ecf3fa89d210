-- A second as six numbers.
use Rattle.x509_prim.specs.Calendar.{Moment, moment}
use Rattle.x509_values.specs.declared.moment.Moment.{Moment as Numbers}

abbrev pub moment_of : Numbers → Moment
moment_of t = moment t.year t.month t.day t.hour t.minute t.second
