use Rattle.std.proofs.Common.{rules}
use Rattle.x509_names.proofs.attribute_type_and_value.AttributeTypeAndValue.new_country_name.Goals as goal

pub returns : goal.returns
returns g c = search (rules)
