use Rattle.std.specs.Prelude.{not}
use Rattle.std.proofs.Common.{ap}
use Rattle.picky_asn1_x509_parts.specs.Extensions.{made}
use Rattle.picky_asn1_x509_parts.specs.declared.extension_value.ExtensionValue.TheVariants as value
use Rattle.picky_asn1_x509_parts.proofs.Makers.{is_absent}
use Rattle.picky_asn1_x509_parts.proofs.extension.Extension.new_extended_key_usage.Goals as goal

pub returns : goal.returns
returns g c = (ap (λ arcs. made arcs (not c.contains-critical.result) (value.ExtendedKeyUsage c.args.extended_key_usage)) c.in_ok-extended_key_usage.ensures.arcs, is_absent c.contains-critical.result c.args.extended_key_usage _ _ c.in_ok-any.ensures.arcs c.contains-critical.ensures)
