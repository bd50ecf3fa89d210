use Rattle.std.proofs.Common.{arith}
use Rattle.x509_values.specs.facts.UnixTimes.{years_counted}
use Rattle.x509_values.proofs.moment.days_before_year.Goals as goal

pub returns-clause-days : goal.returns-clause-days
returns-clause-days c = omega (arith, years_counted c.args.year)
