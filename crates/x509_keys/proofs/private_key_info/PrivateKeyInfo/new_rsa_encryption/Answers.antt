use Rattle.std.proofs.Common.{rules}
use Rattle.x509_keys.proofs.private_key_info.PrivateKeyInfo.new_rsa_encryption.Goals as goal

pub returns : goal.returns
returns g c = search (rules)
