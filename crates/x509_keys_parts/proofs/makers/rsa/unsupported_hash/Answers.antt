use Rattle.std.proofs.Common.{refl}
use Rattle.std.specs.String.{string_bytes}
use Rattle.x509_keys_parts.specs.declared.errors.AlgorithmError.TheVariants as error
use Rattle.x509_keys_parts.specs.facts.NamedErrors.{text_or_memory}
use Rattle.x509_keys_parts.proofs.makers.rsa.unsupported_hash.Goals as goal

pub returns : goal.returns
returns g c = rw (← c.name.ensures) (text_or_memory string_bytes (λ s. error.Unsupported (record { algorithm = s })) (λ s. refl) c.from_str.result c.named_by.result c.name.result.now c.from_str.ensures.ok c.named_by.ensures.text c.named_by.ensures.memory)
