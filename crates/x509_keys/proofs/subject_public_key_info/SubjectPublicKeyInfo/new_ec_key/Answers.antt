use Rattle.std.proofs.Common.{rules}
use Rattle.x509_keys.proofs.subject_public_key_info.SubjectPublicKeyInfo.new_ec_key.Goals as goal

pub returns : goal.returns
returns g c = search (rules)
