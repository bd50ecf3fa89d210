use Rattle.std.proofs.Common.{ap}
use Rattle.picky_asn1_x509_parts.specs.declared.extension_value.ExtensionKey.{ExtensionKey}
use Rattle.picky_asn1_x509_parts.proofs.extension_value.ExtensionValueAnyDefinedByKey.pass_behind.Goals as goal

pub returns : goal.returns
returns g c = λ k e. rw (ap (λ (x : ExtensionKey). x.value) e) c.pass_as.ensures
