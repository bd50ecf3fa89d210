use Rattle.std.proofs.Common.{rules}
use Rattle.x509_keys_parts.proofs.aes_auth_enc.AesAuthEncParams.icv_len.Goals as goal

pub returns : goal.returns
returns g c = search (rules)
