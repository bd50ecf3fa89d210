use Rattle.std.specs.Option.{is_some}
use Rattle.x509_der.specs.ObjectIdentifier.{is_strictly_under}
use Rattle.x509_der.specs.facts.OidContent.{under_behind, not_under}
use Rattle.x509_der.specs.facts.Under.{strictly_under, same_test}
use Rattle.x509_der.proofs.oid.OidRef.starts_under.Goals as goal

pub returns-in-None-clause-test : goal.returns-in-None-clause-test
returns-in-None-clause-test c =
    let f = c.args.front.now in
    let a = c.args.self.now in
    same_test _ (is_strictly_under f a) (not_under f a c.in-None.ensures) (strictly_under f a)

pub returns-in-Some-clause-test : goal.returns-in-Some-clause-test
returns-in-Some-clause-test c =
    let f = c.args.front.now in
    let a = c.args.self.now in
    rw c.is_some.ensures (same_test (is_some c.next.result) (is_strictly_under f a) (under_behind f a c.in-Some.rest c.next.new.self c.next.result c.in-Some.ensures c.next.ensures.steps) (strictly_under f a))
