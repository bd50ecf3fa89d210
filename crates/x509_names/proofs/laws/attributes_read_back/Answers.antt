use Rattle.x509_names.specs.facts.AttributeFields.{attribute_readable}
use Rattle.x509_names.proofs.laws.attributes_read_back.Goals as goal

pub returns : goal.returns
returns g c = attribute_readable
