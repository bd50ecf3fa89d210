use Rattle.std.proofs.Common.{◌<◌, length, ap, arith}
use Rattle.std.proofs.lemmas.List.Sums.{position_or_len_is}
use Rattle.x509_hosts.specs.Names.{is_dot}
use Rattle.x509_hosts.proofs.name.first_dot.Goals as goal

pub returns-then-byte-eq46 : goal.returns-then-byte-eq46
returns-then-byte-eq46 c =
    let bound : c.bytes.index < length c.args.bytes.now = omega (arith, c.bytes-test.true) in
    (position_or_len_is is_dot c.args.bytes.now c.bytes.index 0 (omega arith) c.bytes.invariant (λ _. ap is_dot c.if-byte-eq46.true), bound)

pub returns : goal.returns
returns c =
    position_or_len_is is_dot c.args.bytes.now (length c.args.bytes.now) 0 (omega arith) (λ k l. c.bytes.invariant k (omega (arith, l, c.bytes-test.false))) (λ l. absurd (omega (arith, l)))
