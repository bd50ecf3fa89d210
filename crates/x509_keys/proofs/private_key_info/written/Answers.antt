use Rattle.std.proofs.Common.{ap, ◌++◌}
use Rattle.x509_der.specs.Element.{element}
use Rattle.x509_der.specs.SmallInteger.{small_integer_content}
use Rattle.x509_keys_parts.specs.AlgorithmIdentifier.{algorithm_bytes, written_fields}
use Rattle.x509_keys.specs.PrivateKeyValues.{private_key_bytes}
use Rattle.x509_keys.proofs.private_key_info.written.Goals as goal

pub returns : goal.returns
returns g c =
    let v = c.args.value.now in
    rw c.new.ensures (ap (λ x. element 48 (element 2 (small_integer_content v.version) ++ ((algorithm_bytes (written_fields v.private_key_algorithm) ++ private_key_bytes v.private_key) ++ x))) c.borrowed_public_key.ensures)
