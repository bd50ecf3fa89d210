use Rattle.x509_flat_values.proofs.PrivateKeyWalks.{numbers_told}
use Rattle.x509_flat_values.proofs.private_keys.numbers_of.Goals as goal

pub returns : goal.returns
returns g c = λ v y s.
    numbers_told c.args.bytes.now v y c.over-key.result c.take.new.self c.content-version.new.fields c.content-modulus.new.fields c.content-public_exponent.new.fields c.content-private_exponent.new.fields c.content-prime_1.new.fields c.content-prime_2.new.fields c.content-exponent_1.new.fields c.content-exponent_2.new.fields c.content-coefficient.new.fields c.take.result _ s c.over-key.ensures c.take.ensures
    c.content-version.ensures c.content-modulus.ensures c.content-public_exponent.ensures c.content-private_exponent.ensures c.content-prime_1.ensures c.content-prime_2.ensures c.content-exponent_1.ensures c.content-exponent_2.ensures c.content-coefficient.ensures
