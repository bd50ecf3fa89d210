use Rattle.std.proofs.Common.{refl}
use Rattle.x509_der.specs.reads.Passing.{variant_passed}
use Rattle.x509_keys.specs.PrivateKeyValues.{rsa_octets, ec_octets, ed_octets, private_key_bytes, IsPrivateKey}
use Rattle.x509_keys.specs.declared.private_key_value.PrivateKeyValue.TheVariants as key
use Rattle.x509_keys.proofs.private_key_value.pass_as.Goals as goal

pub returns-in-Rsa : goal.returns-in-Rsa
returns-in-Rsa g c = rw c.in-Rsa.is (variant_passed key.Rsa private_key_bytes IsPrivateKey rsa_octets (λ v. tt) (λ v. tt) c.args.reader.now c.pass.new.reader c.pass.result (λ u. refl) c.pass.ensures)

pub returns-in-Ec : goal.returns-in-Ec
returns-in-Ec g c = rw c.in-Ec.is (variant_passed key.EC private_key_bytes IsPrivateKey ec_octets (λ v. tt) (λ v. tt) c.args.reader.now c.pass-in-Ec.new.reader c.pass-in-Ec.result (λ u. refl) c.pass-in-Ec.ensures)

pub returns-in-Ed : goal.returns-in-Ed
returns-in-Ed g c = rw c.in-Ed.is (variant_passed key.ED private_key_bytes IsPrivateKey ed_octets (λ v. tt) (λ v. tt) c.args.reader.now c.pass-in-Ed.new.reader c.pass-in-Ed.result (λ u. refl) c.pass-in-Ed.ensures)
