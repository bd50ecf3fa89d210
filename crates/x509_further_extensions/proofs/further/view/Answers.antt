use Rattle.std.proofs.Common.{refl}
use Rattle.x509_further_extensions.specs.facts.Octets.{no_octets}
use Rattle.x509_further_extensions.proofs.further.view.Goals as goal

pub returns-in_default : goal.returns-in_default
returns-in_default g c = rw (← c.extn_value.ensures.value, no_octets c.extn_value.result c.in_default.not-Generic) refl
