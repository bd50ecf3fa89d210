use Rattle.x509_values.specs.facts.UnixTimes.{count_seconds}
use Rattle.x509_values.proofs.moment.unix_times.Goals as goal

pub returns : goal.returns
returns c = count_seconds
