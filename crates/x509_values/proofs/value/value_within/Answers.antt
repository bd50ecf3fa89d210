use Rattle.x509_values.specs.facts.Values.{read_value, refused_value}
use Rattle.x509_values.proofs.value.value_within.Goals as goal

pub returns-clause-ok : goal.returns-clause-ok
returns-clause-ok g c = read_value g.T.Field.shape c.spellings_are_lawful.ensures.lawful c.args.bytes.now c.args.span c.slice.result _ c.unwrap_or.result c.from_bytes.result c.slice.ensures c.unwrap_or.ensures c.from_bytes.ensures.read

pub returns-clause-err : goal.returns-clause-err
returns-clause-err g c = λ frugal. refused_value g.T.Field.shape c.args.bytes.now c.args.span c.slice.result _ c.unwrap_or.result c.from_bytes.result c.slice.ensures c.unwrap_or.ensures c.from_bytes.ensures.read (c.from_bytes.ensures.frugal frugal)
