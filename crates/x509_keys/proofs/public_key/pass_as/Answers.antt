use Rattle.std.proofs.Common.{refl}
use Rattle.x509_der.specs.reads.Passing.{variant_passed}
use Rattle.x509_keys.specs.PublicKeys.{rsa_bits, key_bits, public_key_bytes, IsPublicKey}
use Rattle.x509_keys.specs.declared.public_key.PublicKey.TheVariants as key
use Rattle.x509_keys.proofs.public_key.pass_as.Goals as goal

pub returns-in-Rsa : goal.returns-in-Rsa
returns-in-Rsa g c = rw c.in-Rsa.is (variant_passed key.Rsa public_key_bytes IsPublicKey rsa_bits (λ v. tt) (λ v. tt) c.args.reader.now c.pass.new.reader c.pass.result (λ u. refl) c.pass.ensures)

pub returns-in-Ec : goal.returns-in-Ec
returns-in-Ec g c = rw c.in-Ec.is (variant_passed key.Ec public_key_bytes IsPublicKey key_bits (λ v. tt) (λ v. tt) c.args.reader.now c.pass-in-Ec.new.reader c.pass-in-Ec.result (λ u. refl) c.pass-in-Ec.ensures)

pub returns-in-Ed : goal.returns-in-Ed
returns-in-Ed g c = rw c.in-Ed.is (variant_passed key.Ed public_key_bytes IsPublicKey key_bits (λ v. tt) (λ v. tt) c.args.reader.now c.pass-in-Ed.new.reader c.pass-in-Ed.result (λ u. refl) c.pass-in-Ed.ensures)

pub returns-in-Mldsa : goal.returns-in-Mldsa
returns-in-Mldsa g c = rw c.in-Mldsa.is (variant_passed key.Mldsa public_key_bytes IsPublicKey key_bits (λ v. tt) (λ v. tt) c.args.reader.now c.pass-in-Mldsa.new.reader c.pass-in-Mldsa.result (λ u. refl) c.pass-in-Mldsa.ensures)
