use Rattle.std.proofs.Common.{refl}
use Rattle.std.proofs.lemmas.Result.{err_from_is_err_and}
use Rattle.x509_der.specs.laws.Variant.{variant_accepts, variant_refuses}
use Rattle.x509_keys.specs.PublicKeys.{rsa_bits, key_bits, public_key_bytes, IsPublicKey}
use Rattle.x509_keys.specs.declared.public_key.PublicKey.TheVariants as key
use Rattle.x509_keys.proofs.public_key.read_as.Goals as goal

pub returns-in_ok-read-in-Rsa : goal.returns-in_ok-read-in-Rsa
returns-in_ok-read-in-Rsa g c = rw c.in-Rsa.is (variant_accepts key.Rsa public_key_bytes IsPublicKey rsa_bits c.args.reader.now c.read.new.reader _ _ refl c.in_ok-read-in-Rsa.ensures)

pub returns-in_err-read-in-Rsa : goal.returns-in_err-read-in-Rsa
returns-in_err-read-in-Rsa g c =
    let p = err_from_is_err_and c.from_residual.result c.from_residual.ensures.1 in
    rw (p.1, p.2, c.in-Rsa.is) (variant_refuses key.Rsa public_key_bytes IsPublicKey rsa_bits c.args.reader.now c.read.new.reader _ c.in_err-read-in-Rsa.ensures)

pub returns-in_ok-read-in-Ec : goal.returns-in_ok-read-in-Ec
returns-in_ok-read-in-Ec g c = rw c.in-Ec.is (variant_accepts key.Ec public_key_bytes IsPublicKey key_bits c.args.reader.now c.read-in-Ec.new.reader _ _ refl c.in_ok-read-in-Ec.ensures)

pub returns-in_err-read-in-Ec : goal.returns-in_err-read-in-Ec
returns-in_err-read-in-Ec g c =
    let p = err_from_is_err_and c.from_residual-in_err-read-in-Ec.result c.from_residual-in_err-read-in-Ec.ensures.1 in
    rw (p.1, p.2, c.in-Ec.is) (variant_refuses key.Ec public_key_bytes IsPublicKey key_bits c.args.reader.now c.read-in-Ec.new.reader _ c.in_err-read-in-Ec.ensures)

pub returns-in_ok-read-in-Ed : goal.returns-in_ok-read-in-Ed
returns-in_ok-read-in-Ed g c = rw c.in-Ed.is (variant_accepts key.Ed public_key_bytes IsPublicKey key_bits c.args.reader.now c.read-in-Ed.new.reader _ _ refl c.in_ok-read-in-Ed.ensures)

pub returns-in_err-read-in-Ed : goal.returns-in_err-read-in-Ed
returns-in_err-read-in-Ed g c =
    let p = err_from_is_err_and c.from_residual-in_err-read-in-Ed.result c.from_residual-in_err-read-in-Ed.ensures.1 in
    rw (p.1, p.2, c.in-Ed.is) (variant_refuses key.Ed public_key_bytes IsPublicKey key_bits c.args.reader.now c.read-in-Ed.new.reader _ c.in_err-read-in-Ed.ensures)

pub returns-in_ok-read-in-Mldsa : goal.returns-in_ok-read-in-Mldsa
returns-in_ok-read-in-Mldsa g c = rw c.in-Mldsa.is (variant_accepts key.Mldsa public_key_bytes IsPublicKey key_bits c.args.reader.now c.read-in-Mldsa.new.reader _ _ refl c.in_ok-read-in-Mldsa.ensures)

pub returns-in_err-read-in-Mldsa : goal.returns-in_err-read-in-Mldsa
returns-in_err-read-in-Mldsa g c =
    let p = err_from_is_err_and c.from_residual-in_err-read-in-Mldsa.result c.from_residual-in_err-read-in-Mldsa.ensures.1 in
    rw (p.1, p.2, c.in-Mldsa.is) (variant_refuses key.Mldsa public_key_bytes IsPublicKey key_bits c.args.reader.now c.read-in-Mldsa.new.reader _ c.in_err-read-in-Mldsa.ensures)
