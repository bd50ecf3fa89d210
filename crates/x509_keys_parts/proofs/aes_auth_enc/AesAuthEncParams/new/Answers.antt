use Rattle.std.proofs.Common.{rules}
use Rattle.x509_keys_parts.proofs.aes_auth_enc.AesAuthEncParams.new.Goals as goal

pub returns : goal.returns
returns g c = search (rules)
