use Rattle.std.proofs.Common.{◌<◌, length, ap, arith}
use Rattle.std.proofs.lemmas.List.Sums.{position_or_len_is}
use Rattle.x509_findings_parts.specs.Hosts.{is_dot}
use Rattle.x509_findings_parts.proofs.host.first_dot.Goals as goal

pub returns-then-octet-eq46 : goal.returns-then-octet-eq46
returns-then-octet-eq46 c =
    let bound : c.octets.index < length c.args.octets.now = omega (arith, c.octets-test.true) in
    (position_or_len_is is_dot c.args.octets.now c.octets.index 0 (omega arith) c.octets.invariant (λ _. ap is_dot c.if-octet-eq46.true), bound)

pub returns : goal.returns
returns c =
    position_or_len_is is_dot c.args.octets.now (length c.args.octets.now) 0 (omega arith) (λ k l. c.octets.invariant k (omega (arith, l, c.octets-test.false))) (λ l. absurd (omega (arith, l)))
