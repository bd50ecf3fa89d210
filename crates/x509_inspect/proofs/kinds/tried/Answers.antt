use Rattle.std.proofs.Common.{MatchOption}
use Rattle.x509_inspect.specs.Determined.{outcome_of}
use Rattle.x509_inspect.specs.Outcomes.{Encodes, EncodesNone}
use Rattle.x509_inspect.specs.Shapes.{Value, shape_of}
use Rattle.x509_inspect.specs.declared.kinds.Outcomes.{Outcomes}
use Rattle.x509_inspect.proofs.Furthest.{each}
use Rattle.x509_inspect.proofs.kinds.tried.Goals as goal

pub returns : goal.returns
returns g c =
    let o : Outcomes = record { certificate = c.accepts.result; request = c.accepts-2.result; private_key = c.accepts-3.result; public_key = c.accepts-4.result; rsa_private_key = c.accepts-5.result; rsa_public_key = c.accepts-6.result; ec_private_key = c.accepts-7.result; name = c.accepts-8.result; extensions = c.accepts-9.result; algorithm = c.accepts-10.result; raw_algorithm = c.accepts-11.result; request_info = c.accepts-12.result; tbs_certificate = c.accepts-13.result } in
    each (λ k. MatchOption (outcome_of o k) (Encodes (Value g.row.A.Denot k) (shape_of g.row.A.Denot k) c.args.bytes.now) (EncodesNone (Value g.row.A.Denot k) (shape_of g.row.A.Denot k) c.args.bytes.now))
    c.accepts.ensures c.accepts-2.ensures c.accepts-3.ensures c.accepts-4.ensures c.accepts-5.ensures c.accepts-6.ensures c.accepts-7.ensures c.accepts-8.ensures c.accepts-9.ensures c.accepts-10.ensures c.accepts-11.ensures c.accepts-12.ensures c.accepts-13.ensures
