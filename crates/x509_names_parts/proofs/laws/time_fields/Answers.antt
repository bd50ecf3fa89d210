use Rattle.x509_der.specs.facts.FieldPlaces.{stands_parts, stands_first, stands_second}
use Rattle.x509_names_parts.specs.Time.{time_parts, time_base, utc, generalized}
use Rattle.x509_names_parts.specs.declared.time.Time.TheVariants.{Utc, Generalized}
use Rattle.x509_names_parts.proofs.laws.time_fields.Goals as goal

pub returns : goal.returns
returns g c (Utc v) string y a = stands_first utc generalized v 0 string string y (stands_parts time_parts time_base (Utc v) 0 string string y (c.fields.ensures (Utc v) string y a))
returns g c (Generalized v) string y a = stands_second utc generalized v 0 string string y (stands_parts time_parts time_base (Generalized v) 0 string string y (c.fields.ensures (Generalized v) string y a))
