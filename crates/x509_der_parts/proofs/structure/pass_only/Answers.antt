use Rattle.std.proofs.Common.{refl}
use Rattle.x509_der_parts.proofs.structure.pass_only.Goals as goal

pub returns : goal.returns
returns g c = record { value = c.in_ok-_brief.ensures.value; accepts = c.in_ok-_brief.ensures.accepts; kept = refl }
