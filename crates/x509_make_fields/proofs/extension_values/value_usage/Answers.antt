use Rattle.x509_make_parts.specs.facts.Appending.{then, an_element}
use Rattle.x509_make_keys.proofs.Stays.{stays}
use Rattle.x509_make_fields.proofs.extension_values.value_usage.Goals as goal

pub returns-in-Some : goal.returns-in-Some
returns-in-Some g c = then _ _ _ (stays c.told_bits.ensures) c.in_ok-given.ensures

pub returns : goal.returns
returns g c = then _ _ _ (stays c.told_bits.ensures) (an_element _ _ _ c.in_ok-key_usage.ensures)
