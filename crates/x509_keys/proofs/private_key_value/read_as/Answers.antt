use Rattle.std.proofs.Common.{refl}
use Rattle.std.proofs.lemmas.Result.{err_from_is_err_and}
use Rattle.x509_der.specs.laws.Variant.{variant_accepts, variant_refuses}
use Rattle.x509_keys.specs.PrivateKeyValues.{rsa_octets, ec_octets, ed_octets, private_key_bytes, IsPrivateKey}
use Rattle.x509_keys.specs.declared.private_key_value.PrivateKeyValue.TheVariants as key
use Rattle.x509_keys.proofs.private_key_value.read_as.Goals as goal

pub returns-in_ok-read-in-Rsa : goal.returns-in_ok-read-in-Rsa
returns-in_ok-read-in-Rsa g c = rw c.in-Rsa.is (variant_accepts key.Rsa private_key_bytes IsPrivateKey rsa_octets c.args.reader.now c.read.new.reader _ _ refl c.in_ok-read-in-Rsa.ensures)

pub returns-in_err-read-in-Rsa : goal.returns-in_err-read-in-Rsa
returns-in_err-read-in-Rsa g c =
    let p = err_from_is_err_and c.from_residual.result c.from_residual.ensures.1 in
    rw (p.1, p.2, c.in-Rsa.is) (variant_refuses key.Rsa private_key_bytes IsPrivateKey rsa_octets c.args.reader.now c.read.new.reader _ c.in_err-read-in-Rsa.ensures)

pub returns-in_ok-read-in-Ec : goal.returns-in_ok-read-in-Ec
returns-in_ok-read-in-Ec g c = rw c.in-Ec.is (variant_accepts key.EC private_key_bytes IsPrivateKey ec_octets c.args.reader.now c.read-in-Ec.new.reader _ _ refl c.in_ok-read-in-Ec.ensures)

pub returns-in_err-read-in-Ec : goal.returns-in_err-read-in-Ec
returns-in_err-read-in-Ec g c =
    let p = err_from_is_err_and c.from_residual-in_err-read-in-Ec.result c.from_residual-in_err-read-in-Ec.ensures.1 in
    rw (p.1, p.2, c.in-Ec.is) (variant_refuses key.EC private_key_bytes IsPrivateKey ec_octets c.args.reader.now c.read-in-Ec.new.reader _ c.in_err-read-in-Ec.ensures)

pub returns-in_ok-read-in-Ed : goal.returns-in_ok-read-in-Ed
returns-in_ok-read-in-Ed g c = rw c.in-Ed.is (variant_accepts key.ED private_key_bytes IsPrivateKey ed_octets c.args.reader.now c.read-in-Ed.new.reader _ _ refl c.in_ok-read-in-Ed.ensures)

pub returns-in_err-read-in-Ed : goal.returns-in_err-read-in-Ed
returns-in_err-read-in-Ed g c =
    let p = err_from_is_err_and c.from_residual-in_err-read-in-Ed.result c.from_residual-in_err-read-in-Ed.ensures.1 in
    rw (p.1, p.2, c.in-Ed.is) (variant_refuses key.ED private_key_bytes IsPrivateKey ed_octets c.args.reader.now c.read-in-Ed.new.reader _ c.in_err-read-in-Ed.ensures)
